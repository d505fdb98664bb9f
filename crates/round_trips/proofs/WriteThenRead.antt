-- Document 01, "Scan record": a scan that is written and read again is the same scan, with the same refusal. Assumes nothing.
use mathlib.Core.Path.{◌≡◌, refl, sym, ap, ◌∙◌}
use mathlib.Core.Bool.{Bool, true}
use mathlib.Core.List.{List, [], ◌∷◌}
use Prim.Native.Nat.{ℕ, ◌+◌, ◌*◌, ◌<◌, ◌≤◌}
use native.Mathlib.Nat.{le_of_lt}
use native.Mathlib.Omega.{arith}
use borrow.Author.Tests.{leb-true}
use lib.ListN.{length, get_or}
use Rattle.arithmetic.specs.Places.{sum_to}
use Rattle.arithmetic.proofs.Places.{all_at}
use Rattle.limits.specs.declared.grid.Grid.{Grid}
use Rattle.limits.specs.declared.grid.Grid.TheVariants.{Radolan, Hrap}
use Rattle.limits.specs.Accepted.{azimuth_accepted}
use Rattle.refusal.proofs.RangeBounds.{range_bounds}
use Rattle.limits.proofs.Accepted.{accepted_azimuth}
use Rattle.scan.specs.Scan.{Scan, gates_of}
use Rattle.scan.specs.ScanRefusal.{lists_accepted, quality_accepted, given_exact, scan_refusal}
use Rattle.scan.proofs.AcceptedScan.{AcceptedLists, accepted_lists}
use Rattle.big_endian.specs.BigEndian.{number_at, numbers_at}
use Rattle.record_contents.specs.RecordBytes.{grid_bytes, contents_of, field_bytes, record_of}
use Rattle.record_layout.specs.RecordPlaces.{grid_length, rays_in, gates_in, content_length, field_start, content_start, head_in, azimuths_in, values_in, qualities_in, scan_in}
use Rattle.record_layout.specs.RecordLists.{RecordLists}
use Rattle.record_layout.specs.RecordRefusal.{weighting_accepted, content_accepted, record_refusal, head_refusal, read_refusal}
use Rattle.record_writer.specs.WriteRefusal.{write_refusal}
use Rattle.big_endian.proofs.StandsAt.{Stands, stands_moved, stands_whole, stands_within}
use Rattle.big_endian.proofs.BigEndianLaws.{bytes_length, all_bytes_length, numbers_read}
use Rattle.round_trips.proofs.FieldStands.{FieldAt, field_read, start_among, fields_length, fields_read, same_starts}
use Rattle.record_contents.proofs.ContentLengths.{each_field, field_length, site_length, gates_length, grid_length_of, grid_length_lem, grid_length_most}
use Rattle.round_trips.proofs.ContentsRead.{GatesRead, site_read, gates_are_read, grid_read, kind_read, weighting_read}
use Rattle.record_layout.proofs.AcceptedRecord.{AcceptedField, AcceptedLayout, layout_none}
use Rattle.record_writer.proofs.AcceptedWriting.{AcceptedWriting, accepted_writing}
use Rattle.refusal.proofs.Then.{then_next}

-- the length that is read is the grid's
grid_length_read : (grid : Grid) (bytes : List ℕ) → number_at 2 bytes 27 ≡ grid_length_of grid → grid_length bytes ≡ grid_length_of grid
unfolding grid_length grid_length_of
grid_length_read (Radolan g) bytes e = rw e
grid_length_read (Hrap g) bytes e = rw e

given_exact_lem : (scan : Scan) → given_exact scan ≡ true → lists_accepted scan.head (length scan.azimuths) (length scan.values) (length scan.qualities) ≡ true
unfolding given_exact
given_exact_lem scan e = e

module _ (scan : Scan) where
  abbrev contents : List (List ℕ)
  contents = contents_of scan

  -- the lengths of the contents, in the scan's numbers
  abbrev sizes : List ℕ
  sizes = 8 ∷ 12 ∷ grid_length_of scan.head.grid ∷ 1 ∷ 4 * scan.head.rays ∷ 2 * gates_of scan.head ∷ gates_of scan.head ∷ []

  sizes_are : AcceptedLists scan.head (length scan.azimuths) (length scan.values) (length scan.qualities) → (k : ℕ) → k < 7 → length (get_or contents k []) ≡ get_or sizes k 0
  unfolding contents_of
  sizes_are lists =
      each_field (λ k. length (get_or contents k []) ≡ get_or sizes k 0)
      (site_length scan.head.site)
      (gates_length scan.head)
      (grid_length_lem scan.head.grid)
      (bytes_length 1 _)
      (all_bytes_length 4 scan.azimuths ∙ ap (λ (n : ℕ). 4 * n) lists.azimuths_length)
      (all_bytes_length 2 scan.values ∙ ap (λ (n : ℕ). 2 * n) lists.values_length)
      (all_bytes_length 1 scan.qualities ∙ omega (arith, lists.qualities_length))

  -- each content's length has two bytes
  sizes_small : scan.head.rays ≤ 720 → gates_of scan.head ≤ 32767 → (k : ℕ) → k < 7 → get_or sizes k 0 < 65536
  sizes_small rays gates =
      each_field (λ k. get_or sizes k 0 < 65536)
      (omega arith) (omega arith) (omega (arith, grid_length_most scan.head.grid, grid_length_lem scan.head.grid)) (omega arith) (omega arith) (omega arith) (omega arith)

  first_starts : (start_among contents 0 ≡ 0) × (start_among contents 1 ≡ 11) × (start_among contents 2 ≡ 26)
  unfolding start_among sum_to contents_of
  first_starts = (refl, rw (site_length scan.head.site), rw (site_length scan.head.site, gates_length scan.head))

  -- bytes in which the record stands
  module _ (bytes : List ℕ) (room : ℕ) (accepted : AcceptedWriting scan room) (stands : Stands (record_of scan) 0 bytes) (whole : length bytes ≡ length (record_of scan)) where
    lists : AcceptedLists scan.head (length scan.azimuths) (length scan.values) (length scan.qualities)
    lists = accepted_lists scan.head (length scan.azimuths) (length scan.values) (length scan.qualities) (given_exact_lem scan accepted.numbers.lengths_pass)

    rays_most : scan.head.rays ≤ 720
    rays_most = (range_bounds 1 720 scan.head.rays accepted.numbers.rays_accepted).1

    field_stands : (k : ℕ) → k < 7 → Stands (field_bytes (1 + k) (get_or contents k [])) (start_among contents k) bytes
    unfolding record_of contents_of
    field_stands k h = stands_moved (omega arith) (fields_read 1 contents 0 bytes stands k h)

    field_at : (k : ℕ) → k < 7 → FieldAt (1 + k) (get_or contents k []) (start_among contents k) bytes
    field_at k h =
        field_read (1 + k) (get_or contents k []) (start_among contents k) bytes (omega arith)
        (rw (sizes_are lists k h) (sizes_small rays_most accepted.gates_most k h)) (field_stands k h)

    gates_there : GatesRead scan.head bytes
    unfolding contents_of
    gates_there =
        gates_are_read scan.head bytes rays_most (range_bounds 1 1000 scan.head.gates accepted.numbers.gates_accepted).1 accepted.numbers.centres_pass
        (stands_moved (omega (arith, first_starts.1)) (field_at 1 (omega arith)).content_stands)

    grid_length_there : grid_length bytes ≡ grid_length_of scan.head.grid
    unfolding contents_of
    grid_length_there =
        grid_length_read scan.head.grid bytes
        (ap (number_at 2 bytes) (omega (arith, first_starts.2)) ∙ (field_at 2 (omega arith)).size_there ∙ grid_length_lem scan.head.grid)

    size_there : (k : ℕ) → k < 7 → length (get_or contents k []) ≡ content_length bytes k
    unfolding content_length rays_in gates_in gates_of
    size_there k h =
        sizes_are lists k h ∙ rw (grid_length_there, gates_there.rays_read, gates_there.gates_read)

    start_there : (n : ℕ) → n ≤ 7 → start_among contents n ≡ field_start bytes n
    start_there n h = same_starts contents bytes n (λ k l. size_there k (omega arith))

    content_there : (k : ℕ) → k < 7 → Stands (get_or contents k []) (content_start bytes k) bytes
    unfolding content_start
    content_there k h = stands_moved (ap (λ (n : ℕ). n + 3) (start_there k (le_of_lt h))) (field_at k h).content_stands

    grid_there : Stands (grid_bytes scan.head.grid) 29 bytes
    unfolding contents_of
    grid_there = stands_moved (omega (arith, first_starts.2)) (field_at 2 (omega arith)).content_stands

    content_good : (k : ℕ) → k < 7 → content_accepted bytes k ≡ true
    unfolding content_accepted weighting_accepted contents_of
    content_good =
        each_field (λ k. content_accepted bytes k ≡ true) refl refl
        (kind_read scan.head.grid bytes grid_length_there grid_there)
        (weighting_read scan.head.weighting (content_start bytes 3) bytes (content_there 3 (omega arith))).1
        refl refl refl

    -- ---- nothing of the layout is refused

    within : (k : ℕ) → k < 7 → field_start bytes k + (3 + content_length bytes k) ≤ length bytes
    within k h =
        let size = field_length (1 + k) (get_or contents k []) in
        omega (arith, stands_within (field_stands k h) (omega arith), start_there k (le_of_lt h), size_there k h)

    field_good : (k : ℕ) → k < 7 → AcceptedField bytes k
    unfolding content_start
    field_good k h =
        let there = field_at k h in
        let start = start_there k (le_of_lt h) in
        record {
          header_there = omega (arith, within k h);
          tag = ap (λ (n : ℕ). get_or bytes n 0) (sym start) ∙ there.tag_there ∙ omega arith;
          size = ap (λ (n : ℕ). number_at 2 bytes (n + 1)) (sym start) ∙ there.size_there ∙ size_there k h;
          content_there = omega (arith, within k h);
          content_passes = content_good k h;
        }

    layout_good : AcceptedLayout bytes
    unfolding record_of contents_of
    layout_good = record {
      field = field_good;
      whole = whole ∙ fields_length 1 contents ∙ start_there 7 (omega arith);
    }

    -- ---- what is read

    head_back : head_in bytes ≡ scan.head
    unfolding head_in contents_of
    head_back =
        let known = accepted.numbers in
        let site = site_read scan.head.site bytes known.site_passes (stands_moved (omega (arith, first_starts.0)) (field_at 0 (omega arith)).content_stands) in
        let grid = grid_read scan.head.grid bytes known.grid_passes grid_length_there grid_there in
        let weighting = (weighting_read scan.head.weighting (content_start bytes 3) bytes (content_there 3 (omega arith))).0 in
        λ i. record {
          site = site i;
          rays = gates_there.rays_read i;
          gates = gates_there.gates_read i;
          first = gates_there.first_read i;
          spacing = gates_there.spacing_read i;
          grid = grid i;
          weighting = weighting i;
        }

    gates_back : gates_in bytes ≡ gates_of scan.head
    unfolding gates_in gates_of
    gates_back = rw (gates_there.rays_read, gates_there.gates_read)

    azimuths_back : azimuths_in bytes ≡ scan.azimuths
    unfolding azimuths_in rays_in contents_of azimuth_accepted
    azimuths_back =
        ap (numbers_at 4 bytes (content_start bytes 4)) (gates_there.rays_read ∙ sym lists.azimuths_length)
        ∙ numbers_read 4 scan.azimuths (content_start bytes 4) bytes
        (λ k. omega (arith, accepted_azimuth (get_or scan.azimuths k 0) (all_at azimuth_accepted scan.azimuths refl accepted.numbers.azimuths_accepted k)))
        (content_there 4 (omega arith))

    values_back : ((k : ℕ) → get_or scan.values k 0 < 65536) → values_in bytes ≡ scan.values
    unfolding values_in contents_of
    values_back small =
        ap (numbers_at 2 bytes (content_start bytes 5)) (gates_back ∙ sym lists.values_length)
        ∙ numbers_read 2 scan.values (content_start bytes 5) bytes small (content_there 5 (omega arith))

    qualities_back : qualities_in bytes ≡ scan.qualities
    unfolding qualities_in contents_of quality_accepted
    qualities_back =
        ap (numbers_at 1 bytes (content_start bytes 6)) (gates_back ∙ sym lists.qualities_length)
        ∙ numbers_read 1 scan.qualities (content_start bytes 6) bytes
        (λ k. omega (arith, leb-true (get_or scan.qualities k 0) 100 (all_at quality_accepted scan.qualities refl accepted.numbers.qualities_accepted k)))
        (content_there 6 (omega arith))

    scan_back : ((k : ℕ) → get_or scan.values k 0 < 65536) → scan_in bytes ≡ scan
    unfolding scan_in
    scan_back small i = record { head = head_back i; azimuths = azimuths_back i; values = values_back small i; qualities = qualities_back i }

    -- the reader's refusal is the scan's
    refusal_back : ((k : ℕ) → get_or scan.values k 0 < 65536) → (exact : Bool) → record_refusal bytes exact ≡ scan_refusal scan exact
    unfolding record_refusal
    refusal_back small exact = then_next _ (layout_none bytes layout_good) ∙ ap (λ (s : Scan). scan_refusal s exact) (scan_back small)

-- ---- a written scan

pub record ReadBack (scan : Scan) (bytes : List ℕ) : Type 0 where
  pub same_scan : scan_in bytes ≡ scan
  pub same_refusal : (exact : Bool) → record_refusal bytes exact ≡ scan_refusal scan exact
  pub head_not_refused : head_refusal bytes ≡ 0
  pub lists_not_refused : (lists : RecordLists) → length lists.azimuths ≡ length scan.azimuths → length lists.values ≡ length scan.values → length lists.qualities ≡ length scan.qualities → read_refusal bytes lists ≡ 0

pub write_then_read : (scan : Scan) (room : ℕ) → ((k : ℕ) → get_or scan.values k 0 < 65536) → write_refusal scan room ≡ 0 → ReadBack scan (record_of scan)
unfolding head_refusal read_refusal
write_then_read scan room small e =
    let bytes = record_of scan in
    let accepted = accepted_writing scan room e in
    let stands = stands_whole bytes in
    let refusal : (exact : Bool) → record_refusal bytes exact ≡ scan_refusal scan exact = refusal_back scan bytes room accepted stands refl small in
    let head-same : head_in bytes ≡ scan.head = head_back scan bytes room accepted stands refl in
    let exact : lists_accepted scan.head (length scan.azimuths) (length scan.values) (length scan.qualities) ≡ true = given_exact_lem scan accepted.numbers.lengths_pass in
    let none : scan_refusal scan true ≡ 0 = rw accepted.numbers.lengths_pass at accepted.none in
    record {
      same_scan = scan_back scan bytes room accepted stands refl small;
      same_refusal = refusal;
      head_not_refused = refusal true ∙ none;
      lists_not_refused = λ lists p r s. ap (record_refusal bytes) (rw (head-same, p, r, s, exact)) ∙ refusal true ∙ none;
    }
