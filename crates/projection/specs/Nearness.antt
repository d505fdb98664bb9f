-- How near a position is to the exact one. Assumes nothing.
use Rattle.std.specs.Prelude.{ℕ, ℤ}
use Rattle.arithmetic.specs.Nearness.{Within}
use Rattle.limits.specs.declared.grid.Grid.{Grid}
use Rattle.limits.specs.declared.site.Site.{Site}
use Rattle.grid.specs.Sphere.{sphere_of}
use Rattle.projection.specs.ExactPosition.{X*, Y*}

-- what the proof reaches, in hundredths of a centimetre
abbrev pub position_error : ℕ
position_error = 2668

-- X and Y each lie within so many centimetres of the exact ones
pub record WithinExact (bound : ℕ) (site : Site) (grid : Grid) (azimuth range : ℕ) (x y : ℤ) : Type 0 where
  pub x_within : Within bound x (X* (sphere_of grid) site azimuth range)
  pub y_within : Within bound y (Y* (sphere_of grid) site azimuth range)
