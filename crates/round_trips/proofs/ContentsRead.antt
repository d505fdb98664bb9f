-- The contents of a record's fields, where they stand, are read as what was written. Assumes nothing.
use mathlib.Core.Path.{◌≡◌, refl, sym, ap, ◌∙◌, subst}
use mathlib.Core.Bool.{true}
use mathlib.Core.List.{List, ◌++◌}
use Prim.Native.Nat.{ℕ, ◌+◌, ◌*◌, ◌-◌, ◌≤◌}
use native.Mathlib.Omega.{arith}
use borrow.Author.Tests.{leb-true, le-leb, eq-eqb}
use lib.Dec.{leb}
use lib.IntN.{ℤ}
use lib.ListN.{get_or, length-append}
use Rattle.arithmetic.specs.Magnitude.{Magnitude}
use Rattle.arithmetic.proofs.Magnitude.{magnitude_pos}
use Rattle.arithmetic.proofs.Test.{and_true}
use Rattle.limits.specs.declared.grid.Grid.{Grid}
use Rattle.limits.specs.declared.grid.Grid.TheVariants.{Radolan, Hrap}
use Rattle.limits.specs.declared.grid.HrapGrid.{HrapGrid}
use Rattle.limits.specs.declared.grid.RadolanGrid.{RadolanGrid}
use Rattle.limits.specs.declared.site.Site.{Site}
use Rattle.refusal.specs.Checks.{in_range}
use Rattle.limits.specs.Accepted.{site_accepted, grid_accepted}
use Rattle.refusal.proofs.RangeBounds.{range_bounds}
use Rattle.limits.proofs.Accepted.{accepted_site, accepted_radolan, accepted_hrap}
use Rattle.limits.specs.declared.weighting.Weighting.{Weighting}
use Rattle.limits.specs.declared.weighting.Weighting.TheVariants.{Plain, ByQuality}
use Rattle.scan.specs.declared.head.ScanHead.{ScanHead}
use Rattle.scan.specs.ScanRefusal.{centres_accepted}
use Rattle.big_endian.specs.BigEndian.{bytes_of, signed_bytes_of, number_at}
use Rattle.record_contents.specs.RecordBytes.{site_bytes, gates_bytes, grid_bytes, weighting_byte}
use Rattle.record_layout.specs.RecordPlaces.{weighting_of, grid_length, site_in, grid_in}
use Rattle.record_layout.specs.RecordRefusal.{kind_accepted}
use Rattle.big_endian.proofs.StandsAt.{Stands, stands_front, stands_rest}
use Rattle.big_endian.proofs.BigEndianLaws.{bytes_length, signed_length, number_read, byte_read, signed_number_read}
use Rattle.record_contents.proofs.ContentLengths.{grid_length_of}

-- ---- 1, site

pub site_read : (site : Site) (bytes : List ℕ) → site_accepted site ≡ true → Stands (site_bytes site) 3 bytes → site_in bytes ≡ site
unfolding site_bytes site_in
site_read site bytes e s =
    let known = accepted_site site e in
    let latitude : Magnitude site.latitude 750000 =
    subst (λ (z : ℤ). Magnitude z 750000) (sym known.latitude.1) (magnitude_pos known.latitude.3) in
    let front = signed_bytes_of 4 site.latitude in
    let back = signed_bytes_of 4 site.longitude in
    let first = signed_number_read 4 site.latitude 750000 3 bytes latitude (omega arith) (stands_front front back s) in
    let second = signed_number_read 4 site.longitude 1800000 7 bytes known.longitude (omega arith) (stands_rest front back 4 (signed_length 4 site.latitude) s) in
    λ i. record { latitude = first i; longitude = second i }

-- ---- 2, gates

pub record GatesRead (head : ScanHead) (bytes : List ℕ) : Type 0 where
  pub rays_read : number_at 2 bytes 14 ≡ head.rays
  pub gates_read : number_at 2 bytes 16 ≡ head.gates
  pub first_read : number_at 4 bytes 18 ≡ head.first
  pub spacing_read : number_at 4 bytes 22 ≡ head.spacing

centres_bounds : (gates first spacing : ℕ) → centres_accepted gates first spacing ≡ true → (first ≤ 46000000) × (spacing ≤ 1000000)
unfolding centres_accepted
centres_bounds gates first spacing e =
    let h = and_true (leb first 46000000) (in_range 1 1000000 spacing) (and_true _ (leb (first + (gates - 1) * spacing) 46000000) e).0 in
    (leb-true first 46000000 h.0, (range_bounds 1 1000000 spacing h.1).1)

pub gates_are_read : (head : ScanHead) (bytes : List ℕ) → head.rays ≤ 720 → head.gates ≤ 1000 → centres_accepted head.gates head.first head.spacing ≡ true → Stands (gates_bytes head) 14 bytes → GatesRead head bytes
unfolding gates_bytes
gates_are_read head bytes r g e s =
    let bounds = centres_bounds head.gates head.first head.spacing e in
    let one = bytes_of 2 head.rays in
    let two = one ++ bytes_of 2 head.gates in
    let three = two ++ bytes_of 4 head.first in
    let s3 = stands_front three (bytes_of 4 head.spacing) s in
    let s2 = stands_front two (bytes_of 4 head.first) s3 in
    record {
      rays_read = number_read 2 head.rays 14 bytes (omega arith) (stands_front one (bytes_of 2 head.gates) s2);
      gates_read =
          number_read 2 head.gates 16 bytes (omega arith)
          (stands_rest one (bytes_of 2 head.gates) 2 (bytes_length 2 head.rays) s2);
      first_read =
          number_read 4 head.first 18 bytes (omega (arith, bounds.0))
          (stands_rest two (bytes_of 4 head.first) 4 (simp (length-append, bytes_length)) s3);
      spacing_read =
          number_read 4 head.spacing 22 bytes (omega (arith, bounds.1))
          (stands_rest three (bytes_of 4 head.spacing) 8 (simp (length-append, bytes_length)) s);
    }

-- ---- 3, grid

-- what is read of each kind
record RadolanRead (g : RadolanGrid) (bytes : List ℕ) : Type 0 where
  kind_there : get_or bytes 29 0 ≡ 1
  x_there : Stands (signed_bytes_of 4 g.x) 30 bytes
  y_there : Stands (signed_bytes_of 4 g.y) 34 bytes
  side_there : Stands (bytes_of 4 g.side) 38 bytes
  columns_there_lem : Stands (bytes_of 2 g.columns) 42 bytes
  rows_there : Stands (bytes_of 2 g.rows) 44 bytes

record HrapRead (g : HrapGrid) (bytes : List ℕ) : Type 0 where
  kind_there : get_or bytes 29 0 ≡ 2
  i_there : Stands (signed_bytes_of 2 g.i) 30 bytes
  j_there : Stands (signed_bytes_of 2 g.j) 32 bytes
  columns_there_lem : Stands (bytes_of 2 g.columns) 34 bytes
  rows_there : Stands (bytes_of 2 g.rows) 36 bytes

radolan_there : (g : RadolanGrid) (bytes : List ℕ) → Stands (grid_bytes (Radolan g)) 29 bytes → RadolanRead g bytes
unfolding grid_bytes
radolan_there g bytes s =
    let one = bytes_of 1 1 in
    let two = one ++ signed_bytes_of 4 g.x in
    let three = two ++ signed_bytes_of 4 g.y in
    let four = three ++ bytes_of 4 g.side in
    let five = four ++ bytes_of 2 g.columns in
    let s5 = stands_front five (bytes_of 2 g.rows) s in
    let s4 = stands_front four (bytes_of 2 g.columns) s5 in
    let s3 = stands_front three (bytes_of 4 g.side) s4 in
    let s2 = stands_front two (signed_bytes_of 4 g.y) s3 in
    record {
      kind_there = byte_read 1 29 bytes (omega arith) (stands_front one (signed_bytes_of 4 g.x) s2);
      x_there = stands_rest one (signed_bytes_of 4 g.x) 1 (bytes_length 1 1) s2;
      y_there = stands_rest two (signed_bytes_of 4 g.y) 5 (simp (length-append, bytes_length, signed_length)) s3;
      side_there = stands_rest three (bytes_of 4 g.side) 9 (simp (length-append, bytes_length, signed_length)) s4;
      columns_there_lem = stands_rest four (bytes_of 2 g.columns) 13 (simp (length-append, bytes_length, signed_length)) s5;
      rows_there = stands_rest five (bytes_of 2 g.rows) 15 (simp (length-append, bytes_length, signed_length)) s;
    }

hrap_there : (g : HrapGrid) (bytes : List ℕ) → Stands (grid_bytes (Hrap g)) 29 bytes → HrapRead g bytes
unfolding grid_bytes
hrap_there g bytes s =
    let one = bytes_of 1 2 in
    let two = one ++ signed_bytes_of 2 g.i in
    let three = two ++ signed_bytes_of 2 g.j in
    let four = three ++ bytes_of 2 g.columns in
    let s4 = stands_front four (bytes_of 2 g.rows) s in
    let s3 = stands_front three (bytes_of 2 g.columns) s4 in
    let s2 = stands_front two (signed_bytes_of 2 g.j) s3 in
    record {
      kind_there = byte_read 2 29 bytes (omega arith) (stands_front one (signed_bytes_of 2 g.i) s2);
      i_there = stands_rest one (signed_bytes_of 2 g.i) 1 (bytes_length 1 2) s2;
      j_there = stands_rest two (signed_bytes_of 2 g.j) 3 (simp (length-append, bytes_length, signed_length)) s3;
      columns_there_lem = stands_rest three (bytes_of 2 g.columns) 5 (simp (length-append, bytes_length, signed_length)) s4;
      rows_there = stands_rest four (bytes_of 2 g.rows) 7 (simp (length-append, bytes_length, signed_length)) s;
    }

pub grid_read : (grid : Grid) (bytes : List ℕ) → grid_accepted grid ≡ true → grid_length bytes ≡ grid_length_of grid → Stands (grid_bytes grid) 29 bytes → grid_in bytes ≡ grid
unfolding grid_in grid_length_of
grid_read (Radolan g) bytes e l s =
    let known = accepted_radolan g e in
    let there = radolan_there g bytes s in
    let x = signed_number_read 4 g.x 2000000000 30 bytes known.x_limit (omega arith) there.x_there in
    let y = signed_number_read 4 g.y 2000000000 34 bytes known.y_limit (omega arith) there.y_there in
    let side = number_read 4 g.side 38 bytes (omega (arith, known.side_most)) there.side_there in
    let columns = number_read 2 g.columns 42 bytes (omega (arith, known.size.columns_most)) there.columns_there_lem in
    let rows = number_read 2 g.rows 44 bytes (omega (arith, known.size.rows_most)) there.rows_there in
    rw l (λ t. Radolan (record { x = x t; y = y t; side = side t; columns = columns t; rows = rows t }))
grid_read (Hrap g) bytes e l s =
    let known = accepted_hrap g e in
    let there = hrap_there g bytes s in
    let i = signed_number_read 2 g.i 10000 30 bytes known.i_limit (omega arith) there.i_there in
    let j = signed_number_read 2 g.j 10000 32 bytes known.j_limit (omega arith) there.j_there in
    let columns = number_read 2 g.columns 34 bytes (omega (arith, known.size.columns_most)) there.columns_there_lem in
    let rows = number_read 2 g.rows 36 bytes (omega (arith, known.size.rows_most)) there.rows_there in
    rw l (λ t. Hrap (record { i = i t; j = j t; columns = columns t; rows = rows t }))

pub kind_read : (grid : Grid) (bytes : List ℕ) → grid_length bytes ≡ grid_length_of grid → Stands (grid_bytes grid) 29 bytes → kind_accepted bytes ≡ true
unfolding grid_length_of kind_accepted
kind_read (Radolan g) bytes l s = rw l (eq-eqb (get_or bytes 29 0) 1 (radolan_there g bytes s).kind_there)
kind_read (Hrap g) bytes l s = rw l (eq-eqb (get_or bytes 29 0) 2 (hrap_there g bytes s).kind_there)

-- ---- 4, weighting

weighting_small : (weighting : Weighting) → weighting_byte weighting ≤ 1
unfolding weighting_byte
weighting_small Plain = omega arith
weighting_small ByQuality = omega arith

weighting_same : (weighting : Weighting) → weighting_of (weighting_byte weighting) ≡ weighting
unfolding weighting_byte weighting_of
weighting_same Plain = refl
weighting_same ByQuality = refl

pub weighting_read : (weighting : Weighting) (at : ℕ) (bytes : List ℕ) → Stands (bytes_of 1 (weighting_byte weighting)) at bytes → (weighting_of (get_or bytes at 0) ≡ weighting) × (leb (get_or bytes at 0) 1 ≡ true)
weighting_read weighting at bytes s =
    let small = weighting_small weighting in
    let byte = byte_read (weighting_byte weighting) at bytes (omega arith) s in
    (ap weighting_of byte ∙ weighting_same weighting, le-leb (get_or bytes at 0) 1 (omega (arith, byte)))
