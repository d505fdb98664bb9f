-- Document 02, T-10: the ledger and the counts by exact positions, and what a ledger and marks that were written say of them. A star marks what
-- exact positions give. Assumes nothing.
use Rattle.std.specs.Prelude.{Bool, false, Ok, Err, ◌&&◌, not, cond, List, ◌≡◌, ℕ, ◌+◌, ◌/◌, ◌%◌, ◌<◌, ◌≤◌, eqb, leb, ℤ, pos, ◌-ℤ◌, nat_abs, get_or}
use Rattle.arithmetic.specs.Places.{sum_to}
use Rattle.grid.specs.declared.window.Window.{Window}
use Rattle.grid.specs.Window.{window_of}
use Rattle.projection.specs.declared.position.Position.{Position}
use Rattle.placement.specs.Gate.{PlaceAnswer}
use Rattle.placement.specs.Located.{column, row}
use Rattle.placement.specs.ExactCell.{cell_of*, entry_of*}
use Rattle.tally.specs.Gates.{is_measured}
use Rattle.tally.specs.Tally.{contributes, count_of}
use Rattle.scan.specs.Rays.{all_gates}
use Rattle.scan.specs.Scan.{Scan, rays_of, gates_of, cells_of}
use Rattle.scan_ledger.specs.ScanLedger.{gates_told}

-- ---- beside a cell

-- a column or a row that differs from a cell's by no more than one
unfoldable pub at_most_one_apart : ℤ → ℕ → Bool
at_most_one_apart index ofCell = leb (nat_abs (index -ℤ pos ofCell)) 1

-- a position whose column and row each differ so from the cell's; a cell's number is row x columns + column
unfoldable pub beside_cell : Window → ℕ → Position → Bool
beside_cell window cell at =
    at_most_one_apart (column window at) (cell % window.columns) && at_most_one_apart (row window at) (cell / window.columns)

-- 1 for a gate at such a position, inside the grid or outside, and 0 for any other
unfoldable pub beside_of : Window → ℕ → PlaceAnswer → ℕ
beside_of window cell (Ok placement) = cond (beside_cell window cell (record { x = placement.x; y = placement.y })) 1 0
beside_of window cell (Err refusal) = 0

unfoldable pub is_marked : List ℕ → ℕ → Bool
is_marked marks gate = eqb (get_or marks gate 0) 1

module _ (scan : Scan) where
  -- the entry of each gate by its exact position, measured or not, ray by ray
  unfoldable pub ledger* : List ℕ
  ledger* = all_gates (λ ray range. entry_of* (cell_of* scan.head.site scan.head.grid ray.azimuth range)) scan.head.first scan.head.spacing (rays_of scan)

  -- for each gate 1 where its computed position lies beside a cell, and 0 where it does not
  unfoldable pub gates_beside : ℕ → List ℕ
  gates_beside cell = gates_told (beside_of (window_of scan.head.grid) cell) scan.head (rays_of scan)

  unfoldable pub is_beside : ℕ → ℕ → Bool
  is_beside cell gate = eqb (get_or (gates_beside cell) gate 0) 1

  -- ---- three counts of a cell

  -- by exact positions: document 01's count, of the measured gates whose exact entry names the cell
  unfoldable pub exact_count : ℕ → ℕ
  exact_count cell = count_of ledger* scan.values scan.qualities cell

  -- how many gates pass a test
  unfoldable pub gates_that : (ℕ → Bool) → ℕ
  gates_that pass = sum_to (λ gate. cond (pass gate) 1 0) (gates_of scan.head)

  -- the unmarked measured gates of the cell
  unfoldable pub unmarked_count : List ℕ → List ℕ → ℕ → ℕ
  unmarked_count ledger marks cell =
      gates_that (λ gate. contributes ledger scan.values scan.qualities cell gate && not (is_marked marks gate))

  -- the marked measured gates beside the cell, those outside the grid included
  unfoldable pub marked_beside : List ℕ → ℕ → ℕ
  marked_beside marks cell =
      gates_that (λ gate. is_measured (get_or scan.values gate 0) && is_marked marks gate && is_beside cell gate)

-- ---- what a ledger and marks say of exact positions

pub record ExactByMarks (scan : Scan) (ledger marks : List ℕ) : Type 0 where
  -- a gate that is not marked has the entry of its exact position: the same cell, or outside in both
  pub unmarked_entry : (gate : ℕ) → gate < gates_of scan.head → is_marked marks gate ≡ false → get_or ledger gate 0 ≡ get_or (ledger* scan) gate 0
  -- a cell's count by exact positions is at least its unmarked measured gates, and at most those plus the marked measured gates beside it
  pub count_least : (cell : ℕ) → cell < cells_of scan.head → unmarked_count scan ledger marks cell ≤ exact_count scan cell
  pub count_most : (cell : ℕ) → cell < cells_of scan.head → exact_count scan cell ≤ unmarked_count scan ledger marks cell + marked_beside scan marks cell
