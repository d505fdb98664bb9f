-- Document 02, T-10, of one gate: its column and row beside those of its exact position. Assumes nothing.
use mathlib.Core.Bool.{true, false}
use mathlib.Core.Path.{◌≡◌, ap}
use Prim.Native.Nat.{ℕ, ◌≤◌}
use lib.Dec.{lit≤}
use lib.IntN.{◌-ℤ◌, nat_abs}
use Rattle.std.specs.Prelude.{Ok}
use Rattle.arithmetic.specs.Fraction.{Fraction}
use Rattle.arithmetic.specs.Nearness.{Within}
use Rattle.arithmetic.proofs.Test.{or_false}
use Rattle.limits.specs.Accepted.{grid_accepted}
use Rattle.limits.specs.declared.grid.Grid.{Grid}
use Rattle.limits.specs.declared.site.Site.{Site}
use Rattle.grid.specs.declared.window.Window.{Window}
use Rattle.grid.specs.Mark.{tolerance, near_line}
use Rattle.grid.specs.Sphere.{sphere_of}
use Rattle.grid.specs.Window.{window_of}
use Rattle.grid.proofs.ExactIndex.{index_beside, index_same}
use Rattle.projection.specs.declared.position.Position.{Position}
use Rattle.projection.specs.ExactPosition.{X*, Y*}
use Rattle.projection.specs.Nearness.{WithinExact}
use Rattle.projection.specs.Position.{position_of}
use Rattle.projection.proofs.GateTerms.{GoodGate}
use Rattle.placement.specs.Gate.{entry_of}
use Rattle.placement.specs.Located.{column, row, in_window, marked, cell_at, located}
use Rattle.placement.specs.ExactCell.{column*, row*, in_window*, located*, cell_of*, entry_of*, ExactUnlessMarked}
use Rattle.placement.proofs.GateNear.{position_within}
use Rattle.placement.proofs.SurveyLimits.{window_limits}

-- ---- of a position

module _ (window : Window) (at : Position) (x y : Fraction) (least : 10000 ≤ window.side) (x-near : Within tolerance at.x x) (y-near : Within tolerance at.y y) where
  -- column and row each differ from the exact ones by no more than one
  pub column_beside : nat_abs (column window at -ℤ column* window x y) ≤ 1
  unfolding column column*
  column_beside = index_beside window.x window.side at.x x least x-near

  pub row_beside : nat_abs (row window at -ℤ row* window x y) ≤ 1
  unfolding row row*
  row_beside = index_beside window.y window.side at.y y least y-near

  -- where the position is not marked they are the same
  module _ (unmarked : marked window at ≡ false) where
    near_no_line : (near_line window.x window.side at.x ≡ false) × (near_line window.y window.side at.y ≡ false)
    unfolding marked
    near_no_line = or_false (near_line window.x window.side at.x) (near_line window.y window.side at.y) unmarked

    column_same : column* window x y ≡ column window at
    unfolding column column*
    column_same = index_same window.x window.side at.x x least x-near near_no_line.0

    row_same : row* window x y ≡ row window at
    unfolding row row*
    row_same = index_same window.y window.side at.y y least y-near near_no_line.1

    -- and so is all that they decide
    pub located_same : located* window x y ≡ cell_at window at
    unfolding located* cell_at in_window* in_window
    located_same = rw (column_same, row_same)

    pub entry_same : entry_of* (located* window x y) ≡ entry_of (Ok (located window at))
    unfolding located entry_of
    entry_same = ap entry_of* located_same

-- ---- of an accepted gate

module _ (site : Site) (grid : Grid) (azimuth range : ℕ) (G : GoodGate site azimuth range) (accepted : grid_accepted grid ≡ true) where
  abbrev at : Position
  at = position_of (sphere_of grid) site azimuth range

  pub near : WithinExact tolerance site grid azimuth range at.x at.y
  near = position_within site grid azimuth range G tolerance (lit≤ tt)

  -- a gate that is not marked has the cell of its exact position, or is outside in both
  pub located_exact : ExactUnlessMarked site grid azimuth range (Ok (located (window_of grid) at))
  unfolding located cell_of* ExactUnlessMarked
  located_exact =
      located_same (window_of grid) at (X* (sphere_of grid) site azimuth range) (Y* (sphere_of grid) site azimuth range) (window_limits grid accepted).side_least near.x_within near.y_within
