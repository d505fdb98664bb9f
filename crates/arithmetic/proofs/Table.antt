-- A rule of a table, shown at all of its places by one test that the checker computes. Assumes nothing.
use mathlib.Core.Path.{◌∙◌, subst, sym}
use mathlib.Core.Bool.{Bool, true, false}
use Prim.Native.Nat.{ℕ, zero, suc, ◌+◌, ◌<◌}
use native.Mathlib.Nat.{add-zero, zero-add, add-suc, suc-add, le_of_suc-le-suc, not-suc-le-zero}
use lib.Dec.{T}

-- both tests pass
abbrev pub both : Bool → Bool → Bool
both true b = b
both false b = false

pub both_left : (a b : Bool) → T (both a b) → T a
both_left true b t = tt
both_left false b t = t

pub both_right : (a b : Bool) → T (both a b) → T b
both_right true b t = t
both_right false b t = absurd t

-- the test passes at n places, from place i on
abbrev pub all_from : (ℕ → Bool) → ℕ → ℕ → Bool
all_from test i zero = true
all_from test i (suc n) = both (test i) (all_from test (suc i) n)

from_place : (test : ℕ → Bool) (i n : ℕ) → T (all_from test i n) → (k : ℕ) → k < n → T (test (i + k))
from_place test i zero t k h = absurd (not-suc-le-zero h)
from_place test i (suc n) t zero h =
    subst (λ (m : ℕ). T (test m)) (sym (add-zero i)) (both_left (test i) (all_from test (suc i) n) t)
from_place test i (suc n) t (suc k) h =
    subst (λ (m : ℕ). T (test m)) (suc-add i k ∙ sym (add-suc i k))
    (from_place test (suc i) n (both_right (test i) (all_from test (suc i) n) t) k (le_of_suc-le-suc h))

-- and so at each of them
pub at_each : (test : ℕ → Bool) (n : ℕ) → T (all_from test 0 n) → (k : ℕ) → k < n → T (test k)
at_each test n t k h = subst (λ (m : ℕ). T (test m)) (zero-add k) (from_place test 0 n t k h)
