-- Document 01, "On both sides of the line": what a case of a single gate says. The table of all cases is crate scan_laws's
-- `starred_cases`. Assumes nothing.
use Rattle.std.specs.Prelude.{◌≡◌, ℕ, ◌<◌, ℤ, pos, negsuc, ◌+ℤ◌}
use Rattle.limits.specs.declared.grid.Grid.{Grid}
use Rattle.limits.specs.declared.grid.Grid.TheVariants.{Radolan, Hrap}
use Rattle.limits.specs.declared.grid.HrapGrid.{HrapGrid}
use Rattle.limits.specs.declared.site.Site.{Site}
use Rattle.projection.specs.Position.{position_of}
use Rattle.placement.specs.GateRefusal.{gate_refusal}
use Rattle.grid.specs.Sphere.{sphere_of}
use Rattle.grid.specs.Window.{window_of, index_of}

pub data GateCase : Type 0 where
  -- range 0 and a longitude, on a kind of grid: X = 0
  x_is_zero : Grid → ℤ → GateCase
  -- X = 0 is this column of the HRAP mesh
  mesh_column_of_zero : ℤ → GateCase
  -- corner 0 and any positive side: this X, told by the side, is this column
  column_at : (ℕ → ℤ) → ℤ → GateCase
  -- a gate on which only the one number is in question: its refusal number, or 0 where it passes
  range_refusal : ℕ → ℕ → GateCase
  latitude_refusal : ℤ → ℕ → GateCase
  azimuth_refusal : ℕ → ℕ → GateCase

-- the grid of document 01's example
unfoldable pub example_grid : Grid
example_grid = Hrap (record { i = pos 400; j = pos 932; columns = 2; rows = 1 })

-- the kind of grid alone decides the sphere, so any grid of the kind will do
unfoldable pub any_radolan : Grid
any_radolan = Radolan (record { x = pos 0; y = pos 0; side = 100000; columns = 1; rows = 1 })

-- the gate that the refusals vary: the example's
example_refusal : ℤ → ℕ → ℕ → ℕ
example_refusal latitude azimuth range =
    gate_refusal (record { latitude = latitude; longitude = negsuc 1049999 }) example_grid azimuth range

unfoldable pub GateHolds : GateCase → Type 0
unfolding example_refusal example_grid
GateHolds (x_is_zero grid longitude) = (site : Site) (azimuth : ℕ) → site.longitude ≡ longitude → (position_of (sphere_of grid) site azimuth 0).x ≡ pos 0
GateHolds (mesh_column_of_zero column) = (g : HrapGrid) → g.i +ℤ index_of (window_of (Hrap g)).x (window_of (Hrap g)).side (pos 0) ≡ column
GateHolds (column_at x column) = (side : ℕ) → 0 < side → index_of (pos 0) side (x side) ≡ column
GateHolds (range_refusal given number) = example_refusal (pos 600000) 0 given ≡ number
GateHolds (latitude_refusal given number) = example_refusal given 0 0 ≡ number
GateHolds (azimuth_refusal given number) = example_refusal (pos 600000) given 0 ≡ number
