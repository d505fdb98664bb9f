-- Where a gate lies inside a grid, the grid has columns. Assumes nothing.
use Rattle.std.specs.Prelude.{Bool, true, Option, Some, None, Result, Ok, Err, ℕ, leb}
use Rattle.placement.specs.declared.gate.Placement.{Placement}
use Rattle.refusal.specs.declared.numbered.Refusal.{Refusal}

-- a cell has a column and a row where the grid has columns
unfoldable pub cell_there : ℕ → Option ℕ → Bool
cell_there columns (Some cell) = leb 1 columns
cell_there columns None = true

unfoldable pub columns_there : ℕ → Result Placement Refusal → Bool
columns_there columns (Ok placement) = cell_there columns placement.cell
columns_there columns (Err refusal) = true
