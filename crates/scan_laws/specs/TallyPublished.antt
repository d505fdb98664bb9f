-- Document 02, T-05, and demand 2: what is promised of the lists that a tally left, and of what is published from its sums. Assumes nothing.
use Rattle.std.specs.Prelude.{true, List, ◌≡◌, ℕ, ◌<◌, ◌≤◌, length, get_or, Result, Ok}
use denote.Triple.Both.{Both}
use Rattle.arithmetic.specs.Places.{sum_to}
use Rattle.refusal.specs.declared.numbered.Refusal.{Refusal}
use Rattle.limits.specs.declared.weighting.Weighting.{Weighting}
use Rattle.tally.specs.Gates.{echo_of}
use Rattle.tally.specs.LentSums.{Cells}
use Rattle.tally.specs.Width.{fit_widths}
use Rattle.publish.specs.CellMeans.{HasPart, cells_from}
use Rattle.publish.specs.Publication.{Publishes}
use Rattle.scan.specs.LentLists.{Lists}
use Rattle.scan.specs.Scan.{Scan, rays_of, cells_of}
use Rattle.scan_ledger.specs.ScanLedger.{ledger_of}
use Rattle.scan_laws.specs.Placed.{placed_of}
use Rattle.scan_laws.specs.ExactCount.{ExactByMarks}

-- the same scan with another weighting
unfoldable pub with_weighting : Weighting → Scan → Scan
with_weighting weighting scan =
    let head = scan.head in
    record {
      head = record { site = head.site; rays = head.rays; gates = head.gates; first = head.first; spacing = head.spacing; grid = head.grid; weighting = weighting };
      azimuths = scan.azimuths;
      values = scan.values;
      qualities = scan.qualities;
    }

-- document 01's means and qualities of a scan
unfoldable pub scan_cells : Weighting → Scan → Cells
scan_cells weighting scan =
    cells_from weighting (ledger_of scan.head (rays_of scan)) scan.values scan.qualities (cells_of scan.head)

-- what the publisher answers and leaves, of the sums of the scan with this ledger
pub record PublishedScan (weighting : Weighting) (scan : Scan) (ledger : List ℕ) (cells : Both Cells Cells) (answer : Result (Unit {0}) Refusal) : Type 0 where
  pub is_done : answer ≡ Ok tt
  pub the_cells : cells.exit ≡ scan_cells weighting scan
  -- a mean that is not 65,535 lies between the least and greatest contributing values, those with quality 0 left out by quality
  pub mean_between : (cell : ℕ) → cell < cells_of scan.head → let mean = get_or cells.exit.means cell 0 in (mean ≡ 65535 → ⊥) → (least greatest : ℕ) → ((k : ℕ) → HasPart weighting ledger scan.values scan.qualities cell k → (least ≤ echo_of (get_or scan.values k 0)) × (echo_of (get_or scan.values k 0) ≤ greatest)) → (least ≤ mean) × (mean ≤ greatest)

-- what the lists hold that a tally left
pub record TallyPublished (scan : Scan) (lists : Lists) : Type 0 where
  -- no count or quality sum passes 32 bits, and no value sum or weighted sum 64
  pub sums_fit : fit_widths lists.sums ≡ true
  -- the counts over the grid add up to the measured gates placed inside it
  pub count_total : sum_to (λ cell. get_or lists.sums.counts cell 0) (length lists.sums.counts) ≡ placed_of scan
  -- document 02, T-10: what the ledger and the marks say of exact positions
  pub exact_by_marks : ExactByMarks scan lists.ledger lists.marks
  -- published in either weighting, into lists of columns x rows
  pub published : (weighting : Weighting) (cells : Both Cells Cells) (answer : Result (Unit {0}) Refusal) → length cells.entry.means ≡ cells_of scan.head → length cells.entry.qualities ≡ cells_of scan.head → Publishes weighting lists.sums cells answer → PublishedScan weighting scan lists.ledger cells answer
