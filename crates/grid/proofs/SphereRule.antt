-- Document 01: K is R x 1.86602540378, nearest whole number. Assumes nothing.
use lib.Dec.{lit<}
use Rattle.arithmetic.specs.Nearness.{Nearest, gap}
use Rattle.arithmetic.proofs.Nearest.{nearest_rule}
use Rattle.limits.specs.declared.grid.Grid.{Grid}
use Rattle.limits.specs.declared.grid.Grid.TheVariants.{Radolan, Hrap}
use Rattle.grid.specs.Sphere.{exact_k, radolan_sphere, hrap_sphere, sphere_of}

pub k_nearest : (grid : Grid) → Nearest 1 (exact_k (sphere_of grid).radius) (sphere_of grid).k
unfolding sphere_of radolan_sphere hrap_sphere exact_k gap
k_nearest (Radolan g) = nearest_rule 1 _ _ (lit< tt) (lit< tt)
k_nearest (Hrap g) = nearest_rule 1 _ _ (lit< tt) (lit< tt)
