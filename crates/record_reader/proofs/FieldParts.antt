-- A field's part, and where it starts. Assumes nothing.
use mathlib.Core.Bool.{Bool, true, false, ◌&&◌, cond}
use mathlib.Core.List.{List, [], ◌∷◌}
use mathlib.Core.Path.{◌≡◌, refl, ap, sym, ◌∙◌}
use Prim.Native.Nat.{ℕ, suc, ◌+◌, ◌-◌, ◌≤◌, ◌<◌}
use native.Mathlib.Omega.{arith}
use borrow.Author.Tests.{le-leb, eq-eqb}
use lib.ListN.{length, take, drop, get_or}
use lib.Seq.{drop-cons}
use Rattle.refusal.specs.Checks.{in_range}
use Rattle.record_layout.specs.RecordPlaces.{content_length, content_start}
use Rattle.record_layout.specs.RecordRefusal.{head_refusal}
use Rattle.record_reader.specs.FieldPart.{part, has_part, field_part, field_place, content_place}
use Rattle.record_layout.specs.Fields.{index_of}
use Rattle.record_layout.specs.declared.field.Field.{Field}
use Rattle.record_layout.proofs.AcceptedRecord.{accepted_record}

-- ---- whether there is a part

pub part_there : (bytes : List ℕ) (number : ℕ) → 1 ≤ number → number ≤ 7 → head_refusal bytes ≡ 0 → has_part bytes number ≡ true
unfolding in_range
part_there bytes number h i e = simp (le-leb 1 number h, le-leb number 7 i, eq-eqb (head_refusal bytes) 0 e)

-- ---- its bytes and its place

pub part_given : (bytes : List ℕ) (number : ℕ) → has_part bytes number ≡ true → part (content_start bytes (number - 1)) (content_length bytes (number - 1)) bytes ≡ field_part bytes number
unfolding field_part
part_given bytes number e = rw e

-- it ends in the record
pub part_inside : (bytes : List ℕ) (number : ℕ) → 1 ≤ number → number ≤ 7 → head_refusal bytes ≡ 0 → content_start bytes (number - 1) + content_length bytes (number - 1) ≤ length bytes
unfolding head_refusal
part_inside bytes number h i e = ((accepted_record bytes true e).layout.field (number - 1) (omega arith)).content_there

pub field_inside : (bytes : List ℕ) (field : Field) → index_of field < 7 → head_refusal bytes ≡ 0 → content_start bytes (index_of field) + content_length bytes (index_of field) ≤ length bytes
unfolding head_refusal
field_inside bytes field h e = ((accepted_record bytes true e).layout.field (index_of field) h).content_there

-- of a record that is not refused, that is where the part starts
pub place_of_content : (bytes : List ℕ) (number : ℕ) → head_refusal bytes ≡ 0 → content_place bytes number ≡ field_place bytes number
unfolding content_place field_place
place_of_content bytes number e = rw (eq-eqb (head_refusal bytes) 0 e) (go (in_range 1 7 number))
  where
    go : (t : Bool) → ◌≡◌ {A = ℕ} (cond t (content_start bytes (number - 1)) 0) (cond (t && true) (content_start bytes (number - 1)) 0)
    go true = refl
    go false = refl

-- ---- why the place is told

-- Bytes alone do not tell a part's place: the tag of field 1 may be the same byte as the content of field 4.
pub tag_for_weighting : (bytes : List ℕ) → head_refusal bytes ≡ 0 → get_or bytes (content_start bytes 3) 0 ≡ get_or bytes 0 0 → (1 ≤ length bytes) × (take 1 bytes ≡ field_part bytes 4)
unfolding part content_length
tag_for_weighting bytes e same =
    let inside : content_start bytes 3 + 1 ≤ length bytes = part_inside bytes 4 (omega arith) (omega arith) e in
    let tag : drop 0 bytes ≡ get_or bytes 0 0 ∷ drop 1 bytes = drop-cons bytes 0 0 (omega arith) in
    let content : drop (content_start bytes 3) bytes ≡ get_or bytes (content_start bytes 3) 0 ∷ drop (suc (content_start bytes 3)) bytes = drop-cons bytes (content_start bytes 3) 0 (omega arith) in
    let same_bytes : take 1 bytes ≡ part (content_start bytes 3) 1 bytes = ap (λ (l : List ℕ). take 1 l) tag ∙ ap (λ (x : ℕ). x ∷ []) (sym same) ∙ sym (ap (λ (l : List ℕ). take 1 l) content) in
    (omega arith, same_bytes ∙ part_given bytes 4 (part_there bytes 4 (omega arith) (omega arith) e))
