-- A test that passes at each element, as the library's `all` answers it. Assumes nothing.
use mathlib.Core.Path.{◌≡◌, refl}
use mathlib.Core.Bool.{Bool}
use mathlib.Core.List.{List, [], ◌∷◌}
use Prim.Native.Nat.{ℕ}
use Rattle.std.specs.List.{list_all}
use Rattle.arithmetic.specs.Places.{all_of}

pub list_all_is : (test : ℕ → Bool) (xs : List ℕ) → list_all test xs ≡ all_of test xs
unfolding all_of
list_all_is test [] = refl
list_all_is test (x ∷ xs) = rw (list_all_is test xs)
