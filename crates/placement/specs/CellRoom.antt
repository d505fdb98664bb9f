-- What the cell asks of window and position. Every accepted grid and gate meets it. Assumes nothing.
use Rattle.std.specs.Prelude.{◌≤◌}
use Rattle.arithmetic.specs.Magnitude.{Magnitude}
use Rattle.grid.specs.declared.window.Window.{Window}
use Rattle.projection.specs.declared.position.Position.{Position}

-- what the cell asks of window and position
pub record WindowLimits (window : Window) : Type 0 where
  pub side_least : 10000 ≤ window.side
  pub side_most : window.side ≤ 10000000
  pub columns_most : window.columns ≤ 1500
  pub rows_most : window.rows ≤ 1500
  pub corner_x : Magnitude window.x 10000000000
  pub corner_y : Magnitude window.y 10000000000

pub record Reachable (window : Window) (at : Position) : Type 0 where
  pub limits : WindowLimits window
  pub x_limit : Magnitude at.x 10000000000
  pub y_limit : Magnitude at.y 10000000000
