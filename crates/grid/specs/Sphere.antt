-- Document 01, "Projection": the sphere of each kind of grid. Radius, central meridian and K go together. Assumes nothing.
use Rattle.std.specs.Prelude.{ℕ, ◌*◌, ◌^◌, pos, negsuc}
use Rattle.arithmetic.specs.Fraction.{Fraction}
use Rattle.limits.specs.declared.grid.Grid.{Grid}
use Rattle.limits.specs.declared.grid.Grid.TheVariants.{Radolan, Hrap}
use Rattle.grid.specs.declared.sphere.Sphere.{Sphere}

unfoldable pub radolan_sphere : Sphere
radolan_sphere = record { radius = 637004000; meridian = pos 100000; k = pos 1188665646 }

-- the meridian is -1,050,000
unfoldable pub hrap_sphere : Sphere
hrap_sphere = record { radius = 637120000; meridian = negsuc 1049999; k = pos 1188882105 }

unfoldable pub sphere_of : Grid → Sphere
sphere_of (Radolan g) = radolan_sphere
sphere_of (Hrap g) = hrap_sphere

-- K is R x 1.86602540378, nearest whole number; this is the exact product
unfoldable pub exact_k : ℕ → Fraction
exact_k R = record { num = pos (R * 186602540378); den = 10 ^ 11 }
