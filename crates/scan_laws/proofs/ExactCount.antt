-- Document 02, T-10: what the ledger and the marks of an accepted scan say of its gates' exact positions, and of each cell's count by these.
-- Assumes nothing.
use mathlib.Core.Bool.{Bool, true, false, ◌&&◌, not, cond}
use mathlib.Core.List.{List}
use mathlib.Core.Path.{◌≡◌, refl, subst}
use Prim.Native.Nat.{ℕ, ◌+◌, ◌*◌, ◌/◌, ◌%◌, ◌<◌, ◌≤◌, zero-le}
use native.Mathlib.Nat.{mod-lt, div-add-mod', div-lt_iff_lt-mul}
use native.Mathlib.Omega.{arith}
use borrow.Author.Tests.{eqb-true, eq-eqb, le-leb}
use lib.Dec.{eqb}
use Rattle.std.proofs.Common.{Ok}
use lib.ListN.{length, get_or}
use Rattle.arithmetic.specs.Places.{sum_to, all_of}
use Rattle.arithmetic.proofs.Places.{sum_scale, sum_of_sums, all_at}
use Rattle.limits.specs.Accepted.{range_accepted, azimuth_accepted, site_accepted, grid_accepted}
use Rattle.grid.specs.Mark.{tolerance}
use Rattle.grid.specs.Sphere.{sphere_of}
use Rattle.grid.specs.Window.{window_of}
use Rattle.projection.specs.Nearness.{WithinExact}
use Rattle.projection.specs.Position.{position_of}
use Rattle.projection.proofs.GateTerms.{GoodGate, good_gate}
use Rattle.placement.specs.Gate.{unless_refused, placement_of}
use Rattle.placement.specs.Located.{located}
use Rattle.placement.specs.ExactCell.{cell_of*, entry_of*}
use Rattle.placement.proofs.ExactCell.{near}
use Rattle.placement.proofs.SurveyLimits.{window_limits}
use Rattle.tally.specs.Gates.{is_measured}
use Rattle.tally.specs.Tally.{contributes, sum_over, count_of}
use Rattle.scan.specs.Scan.{Scan, rays_of, gates_of, cells_of}
use Rattle.scan.specs.ScanRefusal.{centres_accepted}
use Rattle.scan.proofs.AcceptedScan.{cells_most}
use Rattle.scan.proofs.RayLaws.{gate_at}
use Rattle.scan_ledger.specs.ScanLedger.{gates_told}
use Rattle.scan_ledger.proofs.AcceptedLedger.{centres_most, gate_accepted}
use Rattle.accepted_tally.specs.TalliedLists.{tallied_lists}
use Rattle.scan_laws.specs.ExactCount.{beside_of, ledger*, gates_beside, is_marked, is_beside, gates_that, exact_count, unmarked_count, marked_beside, ExactByMarks}
use Rattle.scan_laws.proofs.ExactGate.{unmarked_exact, exactly_beside}
use Rattle.scan_laws.proofs.LedgerEntry.{so_many_gates, ledger_entry, gate_mark}

-- at least the one count, and at most it and the other
Between : ℕ → ℕ → ℕ → Type 0
Between least exactly others = (least ≤ exactly) × (exactly ≤ least + others)

-- ---- the part of one gate in the three counts

abbrev one : Bool → ℕ
one pass = cond pass 1 0

-- a gate that is not marked counts as its entry does
kept : (own : Bool) (others : ℕ) → Between (one (own && true)) (one own) others
unfolding Between
kept true others = (omega arith, omega arith)
kept false others = (omega arith, omega arith)

-- a marked one is left out of the first count, and is in the last where it lies beside the cell
left_out : (own : Bool) (n : ℕ) → one (own && false) ≤ n
left_out true n = zero-le
left_out false n = zero-le

counted_beside : (exactly measured beside : Bool) (n : ℕ) → (exactly ≡ true → beside ≡ true) → one (exactly && measured) ≤ n + one (measured && true && beside)
counted_beside true true beside n h = rw (h refl) (omega arith)
counted_beside true false beside n h = omega arith
counted_beside false measured beside n h = omega arith

gate_part : (cell entry mark beside exact : ℕ) (measured : Bool) → (eqb mark 1 ≡ false → entry ≡ exact) → (exact ≡ cell → beside ≡ 1) → Between (one (eqb entry cell && measured && not (eqb mark 1))) (one (eqb exact cell && measured)) (one (measured && eqb mark 1 && eqb beside 1))
unfolding Between
gate_part cell entry mark beside exact measured unmarked Near-by = go (eqb mark 1) refl
  where
    go : (marked : Bool) → eqb mark 1 ≡ marked → Between (one (eqb entry cell && measured && not marked)) (one (eqb exact cell && measured)) (one (measured && marked && eqb beside 1))
    go true e = (left_out (eqb entry cell && measured) _, counted_beside (eqb exact cell) measured (eqb beside 1) _ (λ is. eq-eqb beside 1 (Near-by (eqb-true exact cell is))))
    go false e = rw (unmarked e) (kept (eqb exact cell && measured) _)

-- ---- the sums

sums_between : (least exactly others : ℕ → ℕ) (n : ℕ) → ((k : ℕ) → k < n → Between (least k) (exactly k) (others k)) → Between (sum_to least n) (sum_to exactly n) (sum_to others n)
unfolding Between
sums_between least exactly others n h = (
  omega (arith, sum_scale 1 least exactly n (λ k i. omega (arith, (h k i).0))),
  rw (← (sum_of_sums least others n)) (omega (arith, sum_scale 1 exactly (λ k. least k + others k) n (λ k i. omega (arith, (h k i).1)))),
)

-- ---- the gates of an accepted scan

module _ (scan : Scan) (rays : length scan.azimuths ≡ scan.head.rays) (gates : 1 ≤ scan.head.gates) (centres : centres_accepted scan.head.gates scan.head.first scan.head.spacing ≡ true) (site : site_accepted scan.head.site ≡ true) (grid : grid_accepted scan.head.grid ≡ true) (azimuths : all_of azimuth_accepted scan.azimuths ≡ true) where
  -- gate g of ray i
  module _ (i g : ℕ) (i-below : i < scan.head.rays) (g-below : g < scan.head.gates) where
    abbrev place : ℕ
    place = i * scan.head.gates + g

    abbrev azimuth : ℕ
    azimuth = get_or scan.azimuths i 0

    abbrev range : ℕ
    range = scan.head.first + g * scan.head.spacing

    i_azimuth : i < length scan.azimuths
    i_azimuth = omega (arith, rays)

    -- it is not refused
    placed : placement_of scan.head.site scan.head.grid azimuth range ≡ Ok (located (window_of scan.head.grid) (position_of (sphere_of scan.head.grid) scan.head.site azimuth range))
    unfolding placement_of unless_refused azimuth_accepted
    placed = rw (gate_accepted scan.head centres site grid azimuth g (all_at azimuth_accepted scan.azimuths refl azimuths i) g-below)

    good : GoodGate scan.head.site azimuth range
    unfolding range_accepted
    good = good_gate scan.head.site azimuth range (le-leb _ _ (centres_most scan.head.gates scan.head.first scan.head.spacing g centres g-below)) site

    exact_entry : get_or (ledger* scan) place 0 ≡ entry_of* (cell_of* scan.head.site scan.head.grid azimuth range)
    unfolding ledger* rays_of
    exact_entry = gate_at _ _ _ scan.head.gates scan.azimuths i g i_azimuth g-below

    beside_entry : (cell : ℕ) → get_or (gates_beside scan cell) place 0 ≡ beside_of (window_of scan.head.grid) cell (placement_of scan.head.site scan.head.grid azimuth range)
    unfolding gates_beside gates_told rays_of
    beside_entry cell = gate_at _ _ _ scan.head.gates scan.azimuths i g i_azimuth g-below

    -- its position lies near the exact one
    within : WithinExact tolerance scan.head.site scan.head.grid azimuth range (position_of (sphere_of scan.head.grid) scan.head.site azimuth range).x (position_of (sphere_of scan.head.grid) scan.head.site azimuth range).y
    within = near scan.head.site scan.head.grid azimuth range good grid

    side_least : 10000 ≤ (window_of scan.head.grid).side
    side_least = (window_limits scan.head.grid grid).side_least

    unmarked_at : eqb (get_or (tallied_lists scan).marks place 0) 1 ≡ false → get_or (tallied_lists scan).ledger place 0 ≡ get_or (ledger* scan) place 0
    unfolding cell_of*
    unmarked_at =
        rw (ledger_entry scan i g i_azimuth g-below, gate_mark scan i g i_azimuth g-below, exact_entry, placed)
        (unmarked_exact (window_of scan.head.grid) _ _ _ side_least within.x_within within.y_within)

    beside_at : (cell : ℕ) → cell < cells_of scan.head → get_or (ledger* scan) place 0 ≡ cell → get_or (gates_beside scan cell) place 0 ≡ 1
    unfolding cell_of*
    beside_at cell below =
        rw (beside_entry cell, exact_entry, placed)
        (exactly_beside (window_of scan.head.grid) _ _ _ side_least within.x_within within.y_within cell (omega (arith, cells_most scan.head grid)))

  -- what holds of each gate of each ray holds of every gate
  every_gate : (P : ℕ → Type 0) → ((i g : ℕ) → i < scan.head.rays → g < scan.head.gates → P (i * scan.head.gates + g)) → (k : ℕ) → k < gates_of scan.head → P k
  unfolding gates_of
  every_gate P each k h =
      let n = scan.head.gates in
      subst P (div-add-mod' k n) (each (k / n) (k % n) ((div-lt_iff_lt-mul {k = n} gates).1 h) (mod-lt k gates))

  -- by a ledger and marks that hold what was written for these gates
  module _ (ledger marks : List ℕ) (ledger_is : (k : ℕ) → k < gates_of scan.head → get_or ledger k 0 ≡ get_or (tallied_lists scan).ledger k 0) (marks_are : (k : ℕ) → k < gates_of scan.head → get_or marks k 0 ≡ get_or (tallied_lists scan).marks k 0) where
    unmarked_gate : (k : ℕ) → k < gates_of scan.head → eqb (get_or marks k 0) 1 ≡ false → get_or ledger k 0 ≡ get_or (ledger* scan) k 0
    unmarked_gate k h = rw (ledger_is k h, marks_are k h) (every_gate (λ n. eqb (get_or (tallied_lists scan).marks n 0) 1 ≡ false → get_or (tallied_lists scan).ledger n 0 ≡ get_or (ledger* scan) n 0) unmarked_at k h)

    exact_length : length (ledger* scan) ≡ gates_of scan.head
    unfolding ledger* gates_of
    exact_length = so_many_gates scan _ rays

    counts : (cell : ℕ) → cell < cells_of scan.head → Between (unmarked_count scan ledger marks cell) (exact_count scan cell) (marked_beside scan marks cell)
    unfolding exact_count count_of sum_over contributes unmarked_count marked_beside gates_that is_marked is_beside
    counts cell below =
        rw exact_length
        (sums_between _ _ _ (gates_of scan.head)
        (λ k h. gate_part cell (get_or ledger k 0) (get_or marks k 0) (get_or (gates_beside scan cell) k 0) (get_or (ledger* scan) k 0) (is_measured (get_or scan.values k 0)) (unmarked_gate k h)
        (every_gate (λ n. get_or (ledger* scan) n 0 ≡ cell → get_or (gates_beside scan cell) n 0 ≡ 1) (λ i g a b. beside_at i g a b cell below) k h)))

    pub exact_by_marks : ExactByMarks scan ledger marks
    unfolding is_marked Between
    exact_by_marks = record {
      unmarked_entry = unmarked_gate;
      count_least = λ cell below. (counts cell below).0;
      count_most = λ cell below. (counts cell below).1;
    }
