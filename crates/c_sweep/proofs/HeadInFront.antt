-- A state's first thirteen numbers are its scan's. Assumes nothing.
use Rattle.std.proofs.Common.{◌≡◌, ℤ, List, take}
use native.Mathlib.Omega.{arith}
use Rattle.std.proofs.lemmas.List.{get_or-take}
use Rattle.c_structs.specs.Structs.{site_at, grid_at, head_of}

pub head_in_front : (numbers : List ℤ) → head_of (take 13 numbers) ≡ head_of numbers
unfolding head_of site_at grid_at
head_in_front numbers = grind (arith, get_or-take)
