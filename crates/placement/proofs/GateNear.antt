-- Demand 3 for an accepted gate. Assumes nothing.
use Prim.Native.Nat.{ℕ, ◌*◌, ◌≤◌}
use Rattle.std.specs.Prelude.{Ok}
use Rattle.limits.specs.declared.grid.Grid.{Grid}
use Rattle.limits.specs.declared.site.Site.{Site}
use Rattle.projection.specs.Nearness.{position_error, WithinExact}
use Rattle.placement.specs.GateNearness.{PositionWithin}
use Rattle.projection.specs.Position.{position_of, position_by}
use Rattle.grid.specs.Sphere.{sphere_of}
use Rattle.grid.specs.Window.{window_of}
use Rattle.placement.specs.Located.{located}
use Rattle.projection.proofs.GateTerms.{GoodGate, good_sphere}
use Rattle.projection.proofs.PositionNear.{X_within, Y_within}

module _ (site : Site) (grid : Grid) (azimuth range : ℕ) (G : GoodGate site azimuth range) (bound : ℕ) (reached : position_error ≤ bound * 100) where
  pub position_within : WithinExact bound site grid azimuth range (position_of (sphere_of grid) site azimuth range).x (position_of (sphere_of grid) site azimuth range).y
  unfolding position_of position_by
  position_within = record {
    x_within = X_within (sphere_of grid) site azimuth range (good_sphere grid) G bound reached;
    y_within = Y_within (sphere_of grid) site azimuth range (good_sphere grid) G bound reached;
  }

  -- in whichever cell it lies, or outside
  pub located_within : PositionWithin bound site grid azimuth range (Ok (located (window_of grid) (position_of (sphere_of grid) site azimuth range)))
  unfolding PositionWithin located
  located_within = position_within
