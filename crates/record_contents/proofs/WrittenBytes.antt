-- Numbers, fields and the whole record, stored piece by piece in a buffer. Assumes nothing.
use mathlib.Core.Path.{◌≡◌, refl, sym, ap, ◌∙◌}
use mathlib.Core.List.{List, [], ◌∷◌}
use Prim.Native.Nat.{ℕ, suc, ◌+◌, ◌*◌}
use native.Mathlib.Omega.{arith}
use lib.ListN.{length}
use lib.Seq.{sets}
use Rattle.scan.specs.Scan.{Scan}
use Rattle.big_endian.specs.BigEndian.{bytes_of, all_bytes_of}
use Rattle.record_contents.specs.RecordBytes.{site_bytes, gates_bytes, grid_bytes, weighting_byte, contents_of, header_bytes, field_bytes, fields_bytes, record_of}
use Rattle.big_endian.proofs.BigEndianLaws.{bytes_length, all_bytes_length}
use Rattle.record_contents.proofs.ContentLengths.{site_length, gates_length, field_length}
use Rattle.arithmetic.proofs.SetsLaws.{sets_then}

-- ---- a header, and a field behind its header

header_length : (tag count : ℕ) → length (header_bytes tag count) ≡ 3
unfolding bytes_of header_bytes
header_length tag count = refl

pub header_stored : (a : List ℕ) (at tag count : ℕ) {b c : List ℕ} → b ≡ sets a at (bytes_of 1 tag) → c ≡ sets b (at + 1) (bytes_of 2 count) → c ≡ sets a at (header_bytes tag count)
unfolding header_bytes
header_stored a at tag count e f =
    sets_then a at (bytes_of 1 tag) (bytes_of 2 count) e (ap (λ (k : ℕ). at + k) (sym (bytes_length 1 tag))) f

pub field_stored : (a : List ℕ) (at tag : ℕ) (content : List ℕ) {count : ℕ} {b c : List ℕ} → length content ≡ count → b ≡ sets a at (header_bytes tag count) → c ≡ sets b (at + 3) content → c ≡ sets a at (field_bytes tag content)
unfolding field_bytes
field_stored a at tag content {count} l e f =
    sets_then a at (header_bytes tag (length content)) content (e ∙ ap (λ (n : ℕ). sets a at (header_bytes tag n)) (sym l))
    (ap (λ (k : ℕ). at + k) (sym (header_length tag (length content)))) f

-- a field of numbers behind its header
pub numbers_stored : (width : ℕ) (a : List ℕ) (at tag : ℕ) (ns : List ℕ) {count : ℕ} {b c : List ℕ} → width * length ns ≡ count → b ≡ sets a at (header_bytes tag count) → c ≡ sets b (at + 3) (all_bytes_of width ns) → c ≡ sets a at (field_bytes tag (all_bytes_of width ns))
numbers_stored width a at tag ns l e f = field_stored a at tag (all_bytes_of width ns) (all_bytes_length width ns ∙ l) e f

-- ---- fields stored one behind the other

fields_none : (a : List ℕ) (at tag : ℕ) → a ≡ sets a at (fields_bytes tag [])
unfolding fields_bytes
fields_none a at tag = refl

-- a field, and the others behind it
fields_more : (a : List ℕ) (at tag : ℕ) (content : List ℕ) (contents : List (List ℕ)) {b c : List ℕ} {place : ℕ} → b ≡ sets a at (field_bytes tag content) → place ≡ at + (3 + length content) → c ≡ sets b place (fields_bytes (suc tag) contents) → c ≡ sets a at (fields_bytes tag (content ∷ contents))
unfolding fields_bytes
fields_more a at tag content contents e p f =
    sets_then a at (field_bytes tag content) (fields_bytes (suc tag) contents) e (p ∙ ap (λ (k : ℕ). at + k) (sym (field_length tag content))) f

-- the whole record
pub record_stored : (scan : Scan) (a : List ℕ) {b c d e f g h : List ℕ} {weighting_place azimuths-place values-place qualities-place : ℕ} → weighting_place ≡ 29 + length (grid_bytes scan.head.grid) → azimuths-place ≡ weighting_place + 4 → values-place ≡ azimuths-place + 3 + 4 * length scan.azimuths → qualities-place ≡ values-place + 3 + 2 * length scan.values → b ≡ sets a 0 (field_bytes 1 (site_bytes scan.head.site)) → c ≡ sets b 11 (field_bytes 2 (gates_bytes scan.head)) → d ≡ sets c 26 (field_bytes 3 (grid_bytes scan.head.grid)) → e ≡ sets d weighting_place (field_bytes 4 (bytes_of 1 (weighting_byte scan.head.weighting))) → f ≡ sets e azimuths-place (field_bytes 5 (all_bytes_of 4 scan.azimuths)) → g ≡ sets f values-place (field_bytes 6 (all_bytes_of 2 scan.values)) → h ≡ sets g qualities-place (field_bytes 7 (all_bytes_of 1 scan.qualities)) → h ≡ sets a 0 (record_of scan)
unfolding contents_of record_of
record_stored scan a {b} {c} {d} {e} {f} {g} {h} {weighting_place} {azimuths-place} {values-place} {qualities-place} p₄ p₅ p₆ p₇ site gates grid weighting azimuths-field values-field qualities-field =
    fields_more a 0 1 _ _ site (omega (arith, site_length scan.head.site))
    (fields_more b 11 2 _ _ gates (omega (arith, gates_length scan.head))
    (fields_more c 26 3 _ _ grid (omega arith)
    (fields_more d weighting_place 4 _ _ weighting (omega (arith, bytes_length 1 (weighting_byte scan.head.weighting)))
    (fields_more e azimuths-place 5 _ _ azimuths-field (omega (arith, all_bytes_length 4 scan.azimuths))
    (fields_more f values-place 6 _ _ values-field (omega (arith, all_bytes_length 2 scan.values))
    (fields_more g qualities-place 7 _ _ {place = qualities-place + (3 + length (all_bytes_of 1 scan.qualities))} qualities-field refl (fields_none h _ 8)))))))
