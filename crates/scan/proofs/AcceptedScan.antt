-- What is accepted of a scan, as bounds of its numbers; and a scan that is not refused is accepted. Assumes nothing.
use mathlib.Core.Path.{◌≡◌, refl, ap, ◌∙◌}
use mathlib.Core.Bool.{Bool, true, false, ◌&&◌}
use Prim.Native.Nat.{ℕ, ◌≤◌}
use native.Mathlib.Nat.{mul-le-mul}
use native.Mathlib.Omega.{arith}
use borrow.Author.Tests.{eqb-true, eq-eqb}
use lib.Dec.{eqb}
use lib.ListN.{length}
use Rattle.arithmetic.specs.Places.{all_of}
use Rattle.arithmetic.proofs.Test.{and_true}
use Rattle.limits.specs.declared.grid.Grid.{Grid}
use Rattle.limits.specs.declared.grid.Grid.TheVariants.{Radolan, Hrap}
use Rattle.refusal.specs.Checks.{in_range, first_refusal}
use Rattle.limits.specs.Accepted.{azimuth_accepted, site_accepted, grid_accepted}
use Rattle.grid.specs.Window.{window_of}
use Rattle.limits.proofs.Accepted.{AcceptedSize, accepted_radolan, accepted_hrap}
use Rattle.refusal.proofs.RangeBounds.{range_bounds}
use Rattle.scan.specs.declared.head.ScanHead.{ScanHead}
use Rattle.scan.specs.LentLists.{Lists}
use Rattle.scan.specs.Scan.{Scan, gates_of, cells_of}
use Rattle.scan.specs.ScanRefusal.{centres_accepted, quality_accepted, lists_accepted, given_exact, lists_exact, scan_number, scan_refusal, refusal_for}
use Rattle.refusal.proofs.CheckLaws.{passed}

-- ---- the grid's size

pub window_size : (grid : Grid) → grid_accepted grid ≡ true → AcceptedSize (window_of grid).columns (window_of grid).rows
unfolding window_of
window_size (Radolan g) e = (accepted_radolan g e).size
window_size (Hrap g) e = (accepted_hrap g e).size

-- each cell's number is below that of outside
pub cells_most : (head : ScanHead) → grid_accepted head.grid ≡ true → cells_of head ≤ 4294967295
unfolding cells_of
cells_most head accepted =
    let size = window_size head.grid accepted in
    omega (arith, mul-le-mul size.columns_most size.rows_most)

-- ---- the lengths

-- the last of several tests, and those before it
last_equal : (before : Bool) (a b : ℕ) → (before && eqb a b) ≡ true → (before ≡ true) × (a ≡ b)
last_equal before a b e =
    let h = and_true before (eqb a b) e in
    (h.0, eqb-true a b h.1)

-- the three lists of a scan
pub record AcceptedLists (head : ScanHead) (azimuths values qualities : ℕ) : Type 0 where
  pub azimuths_length : azimuths ≡ head.rays
  pub values_length : values ≡ gates_of head
  pub qualities_length : qualities ≡ gates_of head

pub accepted_lists : (head : ScanHead) (azimuths values qualities : ℕ) → lists_accepted head azimuths values qualities ≡ true → AcceptedLists head azimuths values qualities
unfolding lists_accepted
accepted_lists head azimuths values qualities e =
    let last = last_equal _ qualities (gates_of head) e in
    let second = last_equal _ values (gates_of head) last.0 in
    record {
      azimuths_length = eqb-true azimuths head.rays second.0;
      values_length = second.1;
      qualities_length = last.1;
    }

pub refused_lists : (head : ScanHead) (azimuths values qualities : ℕ) → (AcceptedLists head azimuths values qualities → ⊥) → false ≡ lists_accepted head azimuths values qualities
refused_lists head azimuths values qualities wrong = go (lists_accepted head azimuths values qualities) refl
  where
    go : (t : Bool) → lists_accepted head azimuths values qualities ≡ t → false ≡ t
    go true e = absurd (wrong (accepted_lists head azimuths values qualities e))
    go false e = refl

pub by_last_list : (head : ScanHead) (azimuths values qualities : ℕ) → azimuths ≡ head.rays → values ≡ gates_of head → eqb qualities (gates_of head) ≡ lists_accepted head azimuths values qualities
unfolding lists_accepted
by_last_list head azimuths values qualities a v = simp (eq-eqb _ _ a, eq-eqb _ _ v)

pub lists_pass : (head : ScanHead) (azimuths values qualities : ℕ) → AcceptedLists head azimuths values qualities → lists_accepted head azimuths values qualities ≡ true
unfolding lists_accepted
lists_pass head azimuths values qualities known =
    rw (eq-eqb _ _ known.azimuths_length, eq-eqb _ _ known.values_length, eq-eqb _ _ known.qualities_length)

-- of a scan, and those that are lent for it
pub record AcceptedLengths (scan : Scan) (lists : Lists) : Type 0 where
  pub azimuths_length : length scan.azimuths ≡ scan.head.rays
  pub values_length : length scan.values ≡ gates_of scan.head
  pub qualities_length : length scan.qualities ≡ gates_of scan.head
  pub ledger_length : length lists.ledger ≡ gates_of scan.head
  pub marks_length : length lists.marks ≡ gates_of scan.head
  pub counts_length : length lists.sums.counts ≡ cells_of scan.head
  pub quality_sums_length : length lists.sums.quality_sums ≡ cells_of scan.head
  pub value_sums_length : length lists.sums.value_sums ≡ cells_of scan.head
  pub weighted_sums_length : length lists.sums.weighted_sums ≡ cells_of scan.head

pub accepted_lengths : (scan : Scan) (lists : Lists) → lists_exact scan lists ≡ true → AcceptedLengths scan lists
unfolding lists_exact given_exact
accepted_lengths scan lists e =
    let weighted-sums = last_equal _ _ _ e in
    let value-sums = last_equal _ _ _ weighted-sums.0 in
    let quality-sums = last_equal _ _ _ value-sums.0 in
    let counts = last_equal _ _ _ quality-sums.0 in
    let marks = last_equal _ _ _ counts.0 in
    let ledger = last_equal _ _ _ marks.0 in
    let own = accepted_lists scan.head (length scan.azimuths) (length scan.values) (length scan.qualities) ledger.0 in
    record {
      azimuths_length = own.azimuths_length;
      values_length = own.values_length;
      qualities_length = own.qualities_length;
      ledger_length = ledger.1;
      marks_length = marks.1;
      counts_length = counts.1;
      quality_sums_length = quality-sums.1;
      value_sums_length = value-sums.1;
      weighted_sums_length = weighted-sums.1;
    }

pub refused_lengths : (scan : Scan) (lists : Lists) → (AcceptedLengths scan lists → ⊥) → false ≡ lists_exact scan lists
refused_lengths scan lists wrong = go (lists_exact scan lists) refl
  where
    go : (t : Bool) → lists_exact scan lists ≡ t → false ≡ t
    go true e = absurd (wrong (accepted_lengths scan lists e))
    go false e = refl

pub refused_by_lists : (scan : Scan) (lists : Lists) → given_exact scan ≡ false → false ≡ lists_exact scan lists
unfolding lists_exact
refused_by_lists scan lists e = simp e

-- where the other lengths are right, the last one decides
pub by_last_length : (scan : Scan) (lists : Lists) → given_exact scan ≡ true → length lists.ledger ≡ gates_of scan.head → length lists.marks ≡ gates_of scan.head → length lists.sums.counts ≡ cells_of scan.head → length lists.sums.quality_sums ≡ cells_of scan.head → length lists.sums.value_sums ≡ cells_of scan.head → eqb (length lists.sums.weighted_sums) (cells_of scan.head) ≡ lists_exact scan lists
unfolding lists_exact
by_last_length scan lists own ledger marks counts quality-sums value-sums =
    simp (own, eq-eqb _ _ ledger, eq-eqb _ _ marks, eq-eqb _ _ counts, eq-eqb _ _ quality-sums, eq-eqb _ _ value-sums)

pub lengths_exact : (scan : Scan) (lists : Lists) → AcceptedLengths scan lists → lists_exact scan lists ≡ true
unfolding lists_exact given_exact
lengths_exact scan lists known =
    rw (lists_pass scan.head _ _ _ (record { azimuths_length = known.azimuths_length; values_length = known.values_length; qualities_length = known.qualities_length }), eq-eqb _ _ known.ledger_length, eq-eqb _ _ known.marks_length, eq-eqb _ _ known.counts_length, eq-eqb _ _ known.quality_sums_length, eq-eqb _ _ known.value_sums_length, eq-eqb _ _ known.weighted_sums_length)

-- lent lists that are exact for one scan are so for another with the same head, whose own lists are exact
pub exact_for_another : (scan other : Scan) (lists : Lists) → scan.head ≡ other.head → AcceptedLists other.head (length other.azimuths) (length other.values) (length other.qualities) → lists_exact scan lists ≡ true → lists_exact other lists ≡ true
exact_for_another scan other lists same own exact =
    let known = accepted_lengths scan lists exact in
    let gates = ap gates_of same in
    let cells = ap cells_of same in
    lengths_exact other lists (record {
      azimuths_length = own.azimuths_length;
      values_length = own.values_length;
      qualities_length = own.qualities_length;
      ledger_length = known.ledger_length ∙ gates;
      marks_length = known.marks_length ∙ gates;
      counts_length = known.counts_length ∙ cells;
      quality_sums_length = known.quality_sums_length ∙ cells;
      value_sums_length = known.value_sums_length ∙ cells;
      weighted_sums_length = known.weighted_sums_length ∙ cells;
    })

-- what a scan without a refusal has, its lists taken as tested
pub record AcceptedNumbers (head : ScanHead) (lengths azimuths qualities : Bool) : Type 0 where
  pub rays_accepted : in_range 1 720 head.rays ≡ true
  pub gates_accepted : in_range 1 1000 head.gates ≡ true
  pub centres_pass : centres_accepted head.gates head.first head.spacing ≡ true
  pub site_passes : site_accepted head.site ≡ true
  pub grid_passes : grid_accepted head.grid ≡ true
  pub lengths_pass : lengths ≡ true
  pub azimuths_accepted : azimuths ≡ true
  pub qualities_accepted : qualities ≡ true

pub accepted_numbers : (head : ScanHead) (lengths azimuths qualities : Bool) → scan_number head lengths azimuths qualities ≡ 0 → AcceptedNumbers head lengths azimuths qualities
unfolding scan_number first_refusal
accepted_numbers head lengths azimuths qualities e =
    let rays = passed _ 0 _ e in
    let gates = passed _ 1 _ rays.1 in
    let centres = passed _ 2 _ gates.1 in
    let site = passed _ 3 _ centres.1 in
    let grid = passed _ 4 _ site.1 in
    let lengths-tested = passed _ 5 _ grid.1 in
    let azimuths-tested = passed _ 6 _ lengths-tested.1 in
    let qualities-tested = passed _ 7 _ azimuths-tested.1 in
    record {
      rays_accepted = rays.0;
      gates_accepted = gates.0;
      centres_pass = centres.0;
      site_passes = site.0;
      grid_passes = grid.0;
      lengths_pass = lengths-tested.0;
      azimuths_accepted = azimuths-tested.0;
      qualities_accepted = qualities-tested.0;
    }

-- a scan that is not refused, with the lists that are lent for it
pub record AcceptedScan (scan : Scan) (lists : Lists) : Type 0 where
  pub rays_most : scan.head.rays ≤ 720
  pub gates_least : 1 ≤ scan.head.gates
  pub gates_most : scan.head.gates ≤ 1000
  pub centres : centres_accepted scan.head.gates scan.head.first scan.head.spacing ≡ true
  pub site : site_accepted scan.head.site ≡ true
  pub grid : grid_accepted scan.head.grid ≡ true
  pub lengths : AcceptedLengths scan lists
  pub azimuths_good : all_of azimuth_accepted scan.azimuths ≡ true
  pub qualities_good : all_of quality_accepted scan.qualities ≡ true

pub accepted_scan : (scan : Scan) (lists : Lists) → refusal_for scan lists ≡ 0 → AcceptedScan scan lists
unfolding refusal_for scan_refusal
accepted_scan scan lists e =
    let numbers = accepted_numbers scan.head _ _ _ e in
    let gates-bounds = range_bounds 1 1000 scan.head.gates numbers.gates_accepted in
    record {
      rays_most = (range_bounds 1 720 scan.head.rays numbers.rays_accepted).1;
      gates_least = gates-bounds.0;
      gates_most = gates-bounds.1;
      centres = numbers.centres_pass;
      site = numbers.site_passes;
      grid = numbers.grid_passes;
      lengths = accepted_lengths scan lists numbers.lengths_pass;
      azimuths_good = numbers.azimuths_accepted;
      qualities_good = numbers.qualities_accepted;
    }
