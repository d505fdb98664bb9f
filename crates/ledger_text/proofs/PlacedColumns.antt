-- Where a gate lies inside a grid, the grid has columns. Assumes nothing.
use mathlib.Core.Bool.{Bool, true, false, cond}
use mathlib.Core.Path.{◌≡◌, refl}
use Prim.Native.Nat.{ℕ, zero, suc, ◌≤◌}
use native.Mathlib.Omega.{arith}
use borrow.Author.Tests.{le-leb}
use Rattle.std.specs.Prelude.{Some, None}
use Rattle.limits.specs.declared.grid.Grid.{Grid}
use Rattle.grid.specs.declared.window.Window.{Window}
use Rattle.projection.specs.declared.position.Position.{Position}
use Rattle.limits.specs.declared.site.Site.{Site}
use Rattle.placement.specs.Gate.{unless_refused, placement_of}
use Rattle.projection.specs.Position.{position_of}
use Rattle.limits.specs.Accepted.{range_accepted, azimuth_accepted, site_accepted, grid_accepted}
use Rattle.refusal.specs.Checks.{first_refusal}
use Rattle.placement.specs.GateRefusal.{gate_refusal}
use Rattle.grid.specs.Sphere.{sphere_of}
use Rattle.grid.specs.Window.{window_of}
use Rattle.placement.specs.Located.{in_window, cell_at, located}
use Rattle.scan.proofs.AcceptedScan.{window_size}
use Rattle.ledger_text.specs.PlacedColumns.{cell_there, columns_there}

-- of four tests that all pass, the third
third_passed : (a b c d : Bool) → ◌≡◌ {A = ℕ} (cond a (cond b (cond c (cond d 0 7) 5) 4) 3) 0 → c ≡ true
third_passed true true true d e = refl
third_passed true true false d e = absurd (omega arith)
third_passed true false c d e = absurd (omega arith)
third_passed false b c d e = absurd (omega arith)

grid_of_lem : (site : Site) (grid : Grid) (azimuth range : ℕ) → gate_refusal site grid azimuth range ≡ 0 → grid_accepted grid ≡ true
unfolding gate_refusal first_refusal
grid_of_lem site grid azimuth range e =
    third_passed (range_accepted range) (site_accepted site) (grid_accepted grid) (azimuth_accepted azimuth) e

located_columns : (columns : ℕ) (window : Window) (at : Position) → 1 ≤ columns → cell_there columns (located window at).cell ≡ true
unfolding located cell_at cell_there
located_columns columns window at h = go (in_window window at) _
  where
    go : (t : Bool) (cell : ℕ) → cell_there columns (cond t (Some cell) None) ≡ true
    go true cell = le-leb 1 columns h
    go false cell = refl

pub placed_columns : (site : Site) (grid : Grid) (azimuth range : ℕ) → columns_there (window_of grid).columns (placement_of site grid azimuth range) ≡ true
unfolding placement_of unless_refused columns_there
placed_columns site grid azimuth range = go (gate_refusal site grid azimuth range) refl
  where
    go : (n : ℕ) → gate_refusal site grid azimuth range ≡ n → columns_there (window_of grid).columns (unless_refused n (located (window_of grid) (position_of (sphere_of grid) site azimuth range))) ≡ true
    go zero e = located_columns _ _ _ (window_size grid (grid_of_lem site grid azimuth range e)).columns_least
    go (suc n) e = refl
