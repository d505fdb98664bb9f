-- Document 01, "Projection": column and row of a position; document 02, T-02: its mark; and so where a gate lies. Assumes nothing.
use Rattle.std.specs.Prelude.{Bool, ◌&&◌, ◌||◌, cond, Option, Some, None, ℕ, ℤ}
use Rattle.placement.specs.declared.gate.Placement.{Placement}
use Rattle.grid.specs.declared.window.Window.{Window}
use Rattle.projection.specs.declared.position.Position.{Position}
use Rattle.grid.specs.Window.{index_of, in_span, cell_number}
use Rattle.grid.specs.Mark.{near_line}

module _ (window : Window) (at : Position) where
  unfoldable pub column : ℤ
  column = index_of window.x window.side at.x

  -- rows count northward
  unfoldable pub row : ℤ
  row = index_of window.y window.side at.y

  unfoldable pub in_window : Bool
  in_window = in_span window.columns column && in_span window.rows row

  -- X lies near a line, or Y does; inside the window or outside
  unfoldable pub marked : Bool
  marked = near_line window.x window.side at.x || near_line window.y window.side at.y

  -- the cell, or none outside
  unfoldable pub cell_at : Option ℕ
  cell_at = cond in_window (Some (cell_number window.columns row column)) None

  unfoldable pub located : Placement
  located = record { cell = cell_at; x = at.x; y = at.y; mark = marked }
