-- The lines of cells that lie in three lists. Assumes nothing.
use Rattle.std.specs.Prelude.{◌≡◌, List, ℕ, ◌≤◌, length, get_or}
use Rattle.arithmetic.specs.Places.{sum_to}
use Rattle.sheet_lines.specs.declared.Cells.{Cells}
use Rattle.sheet_lines.specs.SheetLines.{cell_lines, sheet_lines}

-- a mean and a quality for each count, of at most 1,024 cells
pub record IsListed (cells : Cells) : Type 0 where
  pub at_most : length cells.counts.now ≤ 1024
  pub means : length cells.means.now ≡ length cells.counts.now
  pub qualities : length cells.qualities.now ≡ length cells.counts.now

abbrev pub lines_of : ℕ → Cells → List ℕ
lines_of columns cells = cell_lines columns cells.counts.now cells.means.now cells.qualities.now (length cells.counts.now)

-- the gates that lie inside are those that some cell counts
abbrev pub sheet_of : ℕ → ℕ → ℕ → Cells → List ℕ
sheet_of columns rows gates cells =
    sheet_lines columns rows gates (sum_to (λ k. get_or cells.counts.now k 0) (length cells.counts.now)) cells.counts.now cells.means.now cells.qualities.now
