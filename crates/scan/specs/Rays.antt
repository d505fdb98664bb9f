-- A scan's gates are its rays' gates, one ray after the other: document 01, "The scan". Assumes nothing.
use mathlib.Core.List.{List, [], ◌∷◌, map, flat_map}
use Rattle.std.specs.Prelude.{ℕ, ◌+◌, ◌*◌}
use Rattle.arithmetic.specs.Places.{table}

-- its direction, and how many gates it has
pub record Ray : Type 0 where
  pub azimuth : ℕ
  pub gates : ℕ

-- what each gate of a ray gives, by the ray and the gate's centre: gate g has its centre at first + g x spacing
unfoldable pub ray_gates : (Ray → ℕ → ℕ) → ℕ → ℕ → Ray → List ℕ
ray_gates given first spacing ray = table (λ g. given ray (first + g * spacing)) ray.gates

-- gates are numbered ray by ray
unfoldable pub all_gates : (Ray → ℕ → ℕ) → ℕ → ℕ → List Ray → List ℕ
all_gates given first spacing rays = flat_map (ray_gates given first spacing) rays

-- how many gates the rays have: the next ray starts there
unfoldable pub gates_of_rays : List Ray → ℕ
gates_of_rays [] = 0
gates_of_rays (ray ∷ rays) = ray.gates + gates_of_rays rays

-- rays of equal length
unfoldable pub regular_rays : ℕ → List ℕ → List Ray
regular_rays gates azimuths = map (λ azimuth. record { azimuth = azimuth; gates = gates }) azimuths
