-- Document 01, "Scan record": an accepted record that is read and written again is the same bytes. Assumes nothing.
use mathlib.Core.Path.{◌≡◌, refl, sym, ap, ◌∙◌}
use mathlib.Core.Bool.{Bool, true, false, cond}
use mathlib.Core.List.{List, []}
use Prim.Native.Nat.{ℕ, zero, suc, ◌+◌, ◌*◌, ◌<◌, ◌≤◌}
use native.Mathlib.Nat.{le_of_lt}
use native.Mathlib.Omega.{arith}
use borrow.Author.Tests.{leb-true, eqb-true, le-leb}
use lib.Dec.{eqb}
use lib.ListN.{length, get_or, length-append}
use Rattle.arithmetic.specs.Places.{sum_to}
use Rattle.refusal.specs.Checks.{first_refusal}
use Rattle.scan.specs.Scan.{gates_of}
use Rattle.scan.specs.ScanRefusal.{given_exact}
use Rattle.scan.proofs.AcceptedScan.{lists_pass}
use Rattle.big_endian.specs.BigEndian.{bytes_of, number_at}
use Rattle.record_contents.specs.RecordBytes.{site_bytes, gates_bytes, grid_bytes, weighting_byte, contents_of, field_bytes, record_of}
use Rattle.record_layout.specs.RecordPlaces.{weighting_of, grid_length, rays_in, gates_in, content_length, field_start, content_start, site_in, grid_in, head_in, azimuths_in, values_in, qualities_in, scan_in}
use Rattle.record_layout.specs.RecordRefusal.{kind_accepted, weighting_accepted, content_accepted, head_refusal}
use Rattle.record_writer.specs.WriteRefusal.{write_refusal}
use Rattle.big_endian.proofs.StandsAt.{Stands, stands_moved, stands_next, stands_all}
use Rattle.big_endian.proofs.BigEndianLaws.{bytes_length, signed_length, all_bytes_length, numbers_length, byte_written, number_small, number_written, numbers_written, signed_number_written}
use Rattle.round_trips.proofs.FieldStands.{start_among, field_written, fields_written, fields_length, same_starts}
use Rattle.record_contents.proofs.ContentLengths.{each_field, site_length, gates_length, grid_length_of, grid_length_lem}
use Rattle.record_layout.proofs.AcceptedRecord.{AcceptedField, AcceptedLayout, accepted_record}
use Rattle.refusal.proofs.Then.{then_zero}

-- ---- single contents

weighting_back : (byte : ℕ) → byte ≤ 1 → weighting_byte (weighting_of byte) ≡ byte
unfolding weighting_byte weighting_of
weighting_back zero h = refl
weighting_back (suc zero) h = refl
weighting_back (suc (suc byte)) h = absurd (omega arith)

other_length : (bytes : List ℕ) → eqb (grid_length bytes) 17 ≡ false → grid_length bytes ≡ 9
unfolding grid_length
other_length bytes e = go (eqb (number_at 2 bytes 27) 17) e
  where
    go : (t : Bool) → eqb (cond t 17 9) 17 ≡ false → ◌≡◌ {A = ℕ} (cond t 17 9) 9
    go true q = cc
    go false q = refl

grid_kind : (bytes : List ℕ) (t : Bool) → eqb (grid_length bytes) 17 ≡ t → grid_length_of (grid_in bytes) ≡ grid_length bytes
unfolding grid_in grid_length_of
grid_kind bytes true e = rw e (sym (eqb-true (grid_length bytes) 17 e))
grid_kind bytes false e = rw e (sym (other_length bytes e))

kind_accepted_lem : (bytes : List ℕ) → AcceptedField bytes 2 → kind_accepted bytes ≡ true
unfolding content_accepted
kind_accepted_lem bytes field = field.content_passes

weight_accepted : (bytes : List ℕ) → AcceptedField bytes 3 → weighting_accepted bytes ≡ true
unfolding content_accepted
weight_accepted bytes field = field.content_passes

module _ (bytes : List ℕ) (small : (k : ℕ) → get_or bytes k 0 < 256) where
  site_written : 11 ≤ length bytes → Stands (site_bytes (site_in bytes)) 3 bytes
  unfolding site_bytes site_in
  site_written h =
      stands_next 4 (signed_length 4 _) (signed_number_written 4 3 bytes small (omega arith)) (signed_number_written 4 7 bytes small (omega arith))

  gates_written : 26 ≤ length bytes → Stands (gates_bytes (head_in bytes)) 14 bytes
  unfolding gates_bytes head_in
  gates_written h =
      stands_next 8 (simp (length-append, bytes_length))
      (stands_next 4 (simp (length-append, bytes_length))
      (stands_next 2 (bytes_length 2 _) (number_written 2 14 bytes small (omega arith)) (number_written 2 16 bytes small (omega arith)))
      (number_written 4 18 bytes small (omega arith)))
      (number_written 4 22 bytes small (omega arith))

  grid_written : (t : Bool) → eqb (grid_length bytes) 17 ≡ t → 29 + grid_length bytes ≤ length bytes → kind_accepted bytes ≡ true → Stands (grid_bytes (grid_in bytes)) 29 bytes
  unfolding grid_in kind_accepted grid_bytes
  grid_written true e h k =
      let l : grid_length bytes ≡ 17 = eqb-true (grid_length bytes) 17 e in
      rw e
      (stands_next 15 (simp (length-append, bytes_length, signed_length))
      (stands_next 13 (simp (length-append, bytes_length, signed_length))
      (stands_next 9 (simp (length-append, bytes_length, signed_length))
      (stands_next 5 (simp (length-append, bytes_length, signed_length))
      (stands_next 1 (bytes_length 1 _)
      (byte_written 1 29 bytes small (omega arith) (eqb-true (get_or bytes 29 0) 1 (rw e at k)))
      (signed_number_written 4 30 bytes small (omega arith)))
      (signed_number_written 4 34 bytes small (omega arith)))
      (number_written 4 38 bytes small (omega arith)))
      (number_written 2 42 bytes small (omega arith)))
      (number_written 2 44 bytes small (omega arith)))
  grid_written false e h k =
      let l : grid_length bytes ≡ 9 = other_length bytes e in
      rw e
      (stands_next 7 (simp (length-append, bytes_length, signed_length))
      (stands_next 5 (simp (length-append, bytes_length, signed_length))
      (stands_next 3 (simp (length-append, bytes_length, signed_length))
      (stands_next 1 (bytes_length 1 _)
      (byte_written 2 29 bytes small (omega arith) (eqb-true (get_or bytes 29 0) 2 (rw e at k)))
      (signed_number_written 2 30 bytes small (omega arith)))
      (signed_number_written 2 32 bytes small (omega arith)))
      (number_written 2 34 bytes small (omega arith)))
      (number_written 2 36 bytes small (omega arith)))

  weighting_written : content_start bytes 3 + 1 ≤ length bytes → weighting_accepted bytes ≡ true → Stands (bytes_of 1 (weighting_byte (weighting_of (get_or bytes (content_start bytes 3) 0)))) (content_start bytes 3) bytes
  unfolding weighting_accepted
  weighting_written h e =
      let byte = get_or bytes (content_start bytes 3) 0 in
      byte_written (weighting_byte (weighting_of byte)) (content_start bytes 3) bytes small h (sym (weighting_back byte (leb-true byte 1 e)))

-- ---- all contents

-- the contents that are written again
abbrev pub contents_in : List ℕ → List (List ℕ)
contents_in bytes = contents_of (scan_in bytes)

pub content_length_lem : (bytes : List ℕ) (k : ℕ) → k < 7 → length (get_or (contents_in bytes) k []) ≡ content_length bytes k
unfolding contents_of content_length scan_in head_in azimuths_in values_in qualities_in
content_length_lem bytes =
    each_field (λ k. length (get_or (contents_in bytes) k []) ≡ content_length bytes k)
    (site_length _)
    (gates_length _)
    (grid_length_lem (grid_in bytes) ∙ grid_kind bytes (eqb (grid_length bytes) 17) refl)
    (bytes_length 1 _)
    (all_bytes_length 4 _ ∙ ap (λ (n : ℕ). 4 * n) (numbers_length 4 bytes _ _))
    (all_bytes_length 2 _ ∙ ap (λ (n : ℕ). 2 * n) (numbers_length 2 bytes _ _))
    (all_bytes_length 1 _ ∙ ap (λ (n : ℕ). 1 * n) (numbers_length 1 bytes _ _) ∙ omega arith)

-- the first three places do not depend on the numbers
first_starts : (bytes : List ℕ) → (content_start bytes 0 ≡ 3) × (content_start bytes 1 ≡ 14) × (content_start bytes 2 ≡ 29)
unfolding content_start field_start content_length sum_to
first_starts bytes = (refl, refl, refl)

content_lengths : (bytes : List ℕ) → (content_length bytes 0 ≡ 8) × (content_length bytes 1 ≡ 12) × (content_length bytes 2 ≡ grid_length bytes) × (content_length bytes 3 ≡ 1) × (content_length bytes 4 ≡ 4 * rays_in bytes) × (content_length bytes 5 ≡ 2 * gates_in bytes) × (content_length bytes 6 ≡ gates_in bytes)
unfolding content_length
content_lengths bytes = (refl, refl, refl, refl, refl, refl, refl)

pub content_stands : (bytes : List ℕ) → ((k : ℕ) → get_or bytes k 0 < 256) → AcceptedLayout bytes → (k : ℕ) → k < 7 → Stands (get_or (contents_in bytes) k []) (content_start bytes k) bytes
unfolding contents_of scan_in head_in azimuths_in values_in qualities_in
content_stands bytes small layout =
    let there : (k : ℕ) → k < 7 → content_start bytes k + content_length bytes k ≤ length bytes = λ k h. (layout.field k h).content_there in
    let starts = first_starts bytes in
    let sizes = content_lengths bytes in
    each_field (λ k. Stands (get_or (contents_in bytes) k []) (content_start bytes k) bytes)
    (stands_moved (sym starts.0) (site_written bytes small (omega (arith, there 0 (omega arith)))))
    (stands_moved (sym starts.1) (gates_written bytes small (omega (arith, there 1 (omega arith)))))
    (stands_moved (sym starts.2) (grid_written bytes small (eqb (grid_length bytes) 17) refl (omega (arith, there 2 (omega arith))) (kind_accepted_lem bytes (layout.field 2 (omega arith)))))
    (weighting_written bytes small (omega (arith, there 3 (omega arith))) (weight_accepted bytes (layout.field 3 (omega arith))))
    (numbers_written 4 (content_start bytes 4) (rays_in bytes) bytes small (omega (arith, there 4 (omega arith))))
    (numbers_written 2 (content_start bytes 5) (gates_in bytes) bytes small (omega (arith, there 5 (omega arith))))
    (numbers_written 1 (content_start bytes 6) (gates_in bytes) bytes small (omega (arith, there 6 (omega arith))))

-- ---- the whole record

-- a field of the record, where it is read
field_again : (bytes : List ℕ) → ((k : ℕ) → get_or bytes k 0 < 256) → AcceptedLayout bytes → (k : ℕ) → k < 7 → Stands (field_bytes (1 + k) (get_or (contents_in bytes) k [])) (field_start bytes k) bytes
unfolding content_start
field_again bytes small layout k h =
    let field = layout.field k h in
    field_written (1 + k) (get_or (contents_in bytes) k []) (field_start bytes k) bytes small field.header_there (record {
      tag_there = field.tag ∙ omega arith;
      size_there = field.size ∙ sym (content_length_lem bytes k h);
      content_stands = content_stands bytes small layout k h;
    })

record_again : (bytes : List ℕ) → ((k : ℕ) → get_or bytes k 0 < 256) → AcceptedLayout bytes → record_of (scan_in bytes) ≡ bytes
unfolding record_of contents_of
record_again bytes small layout =
    let starts : (n : ℕ) → n ≤ 7 → start_among (contents_in bytes) n ≡ field_start bytes n =
    λ n h. same_starts (contents_in bytes) bytes n (λ k l. content_length_lem bytes k (omega arith)) in
    stands_all (fields_length 1 (contents_in bytes) ∙ starts 7 (omega arith) ∙ sym layout.whole)
    (fields_written 1 (contents_in bytes) 0 bytes
    (λ k h. stands_moved (sym (starts k (le_of_lt h)) ∙ omega arith) (field_again bytes small layout k h)))

-- ---- it is written again without a refusal

-- field 6 has a length of two bytes
pub gates_most : (bytes : List ℕ) → ((k : ℕ) → get_or bytes k 0 < 256) → AcceptedField bytes 5 → gates_of (head_in bytes) ≤ 32767
unfolding gates_of head_in gates_in content_length
gates_most bytes small field =
    omega (arith, field.size, number_small 2 bytes (field_start bytes 5 + 1) small)

lists_again : (bytes : List ℕ) → given_exact (scan_in bytes) ≡ true
unfolding given_exact scan_in azimuths_in values_in qualities_in rays_in gates_in head_in gates_of
lists_again bytes =
    lists_pass (head_in bytes) _ _ _ (record {
      azimuths_length = numbers_length 4 bytes _ _;
      values_length = numbers_length 2 bytes _ _;
      qualities_length = numbers_length 1 bytes _ _;
    })

written_again : (bytes : List ℕ) (room : ℕ) → ((k : ℕ) → get_or bytes k 0 < 256) → head_refusal bytes ≡ 0 → length bytes ≤ room → write_refusal (scan_in bytes) room ≡ 0
unfolding head_refusal write_refusal first_refusal scan_in
written_again bytes room small e h =
    let accepted = accepted_record bytes true e in
    let again = record_again bytes small accepted.layout in
    then_zero
    (rw (lists_again bytes) accepted.number)
    (rw (
      le-leb (gates_of (scan_in bytes).head) 32767 (gates_most bytes small (accepted.layout.field 5 (omega arith))),
      le-leb (length (record_of (scan_in bytes))) room (omega (arith, ap length again)),
    ))

pub record WrittenBack (bytes : List ℕ) : Type 0 where
  pub same_bytes : record_of (scan_in bytes) ≡ bytes
  pub not_refused : (room : ℕ) → length bytes ≤ room → write_refusal (scan_in bytes) room ≡ 0

pub read_then_write : (bytes : List ℕ) → ((k : ℕ) → get_or bytes k 0 < 256) → head_refusal bytes ≡ 0 → WrittenBack bytes
unfolding head_refusal
read_then_write bytes small e = record {
  same_bytes = record_again bytes small (accepted_record bytes true e).layout;
  not_refused = λ room h. written_again bytes room small e h;
}
