-- A field's content as a part of the record: a refused record or a field number other than 1 to 7 gives an empty part. Assumes nothing.
use Rattle.std.specs.Prelude.{Bool, ◌&&◌, cond, List, [], ℕ, ◌-◌, eqb, take, drop}
use Rattle.refusal.specs.Checks.{in_range}
use Rattle.record_layout.specs.RecordPlaces.{content_length, content_start}
use Rattle.record_layout.specs.RecordRefusal.{head_refusal}

-- `count` bytes from place `start` on
unfoldable pub part : ℕ → ℕ → List ℕ → List ℕ
part start count bytes = take count (drop start bytes)

abbrev pub has_part : List ℕ → ℕ → Bool
has_part bytes number = in_range 1 7 number && eqb (head_refusal bytes) 0

unfoldable pub field_part : List ℕ → ℕ → List ℕ
field_part bytes number = cond (has_part bytes number) (part (content_start bytes (number - 1)) (content_length bytes (number - 1)) bytes) []

-- how many bytes into the record the part starts, 0 for an empty part
unfoldable pub field_place : List ℕ → ℕ → ℕ
field_place bytes number = cond (has_part bytes number) (content_start bytes (number - 1)) 0

-- where the field's content starts in any bytes, refused or not; 0 for a number other than 1 to 7
unfoldable pub content_place : List ℕ → ℕ → ℕ
content_place bytes number = cond (in_range 1 7 number) (content_start bytes (number - 1)) 0
