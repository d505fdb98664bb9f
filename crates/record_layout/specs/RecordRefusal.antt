-- Document 01, "Refusal numbers", for records: the order of the reader's checks. Assumes nothing.
use Rattle.std.specs.Prelude.{Bool, true, cond, List, [], ◌∷◌, ℕ, zero, suc, ◌+◌, leb, eqb, length, get_or}
use Rattle.refusal.specs.Checks.{◌unless◌, first_refusal, ◌then◌}
use Rattle.scan.specs.ScanRefusal.{lists_accepted, scan_refusal}
use Rattle.big_endian.specs.BigEndian.{number_at}
use Rattle.record_layout.specs.RecordPlaces.{grid_length, content_length, field_start, content_start, head_in, scan_in}
use Rattle.record_layout.specs.RecordLists.{RecordLists}

module _ (bytes : List ℕ) where
  -- kind 1 has 17 bytes, kind 2 has 9
  unfoldable pub kind_accepted : Bool
  kind_accepted = eqb (get_or bytes 29 0) (cond (eqb (grid_length bytes) 17) 1 2)

  unfoldable pub weighting_accepted : Bool
  weighting_accepted = leb (get_or bytes (content_start bytes 3) 0) 1

  unfoldable pub content_accepted : ℕ → Bool
  content_accepted k = get_or (true ∷ true ∷ kind_accepted ∷ weighting_accepted ∷ []) k true

  -- three header bytes there, tag, length, content there, then kind and weighting byte
  unfoldable pub field_refusal : ℕ → ℕ
  field_refusal k =
      first_refusal (
      (11 unless leb (content_start bytes k) (length bytes))
      ∷ (12 unless eqb (get_or bytes (field_start bytes k) 0) (k + 1))
      ∷ (13 unless eqb (number_at 2 bytes (field_start bytes k + 1)) (content_length bytes k))
      ∷ (11 unless leb (content_start bytes k + content_length bytes k) (length bytes))
      ∷ (13 unless content_accepted k)
      ∷ [])

  -- the first n fields, field by field
  unfoldable pub fields_refusal : ℕ → ℕ
  fields_refusal zero = 0
  fields_refusal (suc n) = fields_refusal n then field_refusal n

  -- after field 7, 14
  unfoldable pub layout_refusal : ℕ
  layout_refusal = fields_refusal 7 then first_refusal ((14 unless eqb (length bytes) (field_start bytes 7)) ∷ [])

  -- then 1 to 8, where 6 is given unless the lists have their lengths
  unfoldable pub record_refusal : Bool → ℕ
  record_refusal lists_exact = layout_refusal then scan_refusal (scan_in bytes) lists_exact

-- calls that lend no lists check the same without 6
unfoldable pub head_refusal : List ℕ → ℕ
head_refusal bytes = record_refusal bytes true

-- 6 is for the three lists that the reader fills
unfoldable pub read_refusal : List ℕ → RecordLists → ℕ
read_refusal bytes lists =
    record_refusal bytes (lists_accepted (head_in bytes) (length lists.azimuths) (length lists.values) (length lists.qualities))
