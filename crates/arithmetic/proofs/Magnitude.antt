-- The magnitude of sums, products and floors of integers. Assumes nothing.
use mathlib.Core.Path.{◌≡◌, refl}
use Prim.Native.Nat.{ℕ, zero, suc, ◌+◌, ◌*◌, ◌<◌, ◌≤◌}
use native.Mathlib.Nat.{le_trans, mul-le-mul, mul_comm, div-le_of_le-mul, div-lt_iff_lt-mul}
use native.Mathlib.Omega.{arith}
use lib.IntN.{ℤ, pos, negsuc, ◌+ℤ◌, ◌-ℤ◌, ◌*ℤ◌, neg_ℤ, nat_abs}
use Rattle.arithmetic.specs.Floor.{◌÷◌}
use Rattle.arithmetic.specs.Magnitude.{Magnitude}
use Rattle.arithmetic.proofs.Integer.{above, below, is_sum, as_difference, same_difference, differences}

-- ---- the magnitude itself

pub nat_abs_parts : (z : ℤ) → nat_abs z ≡ above z + below z
nat_abs_parts (pos n) = omega arith
nat_abs_parts (negsuc n) = omega arith

pub nat_abs_negation : (z : ℤ) → nat_abs (neg_ℤ z) ≡ nat_abs z
nat_abs_negation (pos zero) = refl
nat_abs_negation (pos (suc n)) = refl
nat_abs_negation (negsuc n) = refl

pub nat_abs_sum : (x y : ℤ) → nat_abs (x +ℤ y) ≤ nat_abs x + nat_abs y
nat_abs_sum x y = go (x +ℤ y) (is_sum x y)
  where
    go : (z : ℤ) → above z + (below x + below y) ≡ (above x + above y) + below z → nat_abs z ≤ nat_abs x + nat_abs y
    go (pos n) e = omega (arith, nat_abs_parts x, nat_abs_parts y)
    go (negsuc n) e = omega (arith, nat_abs_parts x, nat_abs_parts y)

put_back : (x y : ℤ) → (x -ℤ y) +ℤ y ≡ x
put_back x y = rw (as_difference x, as_difference y) (simp differences (same_difference _ _ _ _ (omega arith)))

pub nat_abs_difference : (x y : ℤ) → nat_abs (x -ℤ y) ≤ nat_abs x + nat_abs y
nat_abs_difference x y = rw (← (nat_abs_negation y)) (nat_abs_sum x (neg_ℤ y))

-- no part is greater than what is left of it and what was taken away
pub nat_abs_rest : (x y : ℤ) → nat_abs x ≤ nat_abs (x -ℤ y) + nat_abs y
nat_abs_rest x y = rw (put_back x y) at (nat_abs_sum (x -ℤ y) y)

-- a number less one of no greater magnitude is not negative
pub natural_difference : (a : ℕ) (z : ℤ) → nat_abs z ≤ a → pos a -ℤ z ≡ pos (nat_abs (pos a -ℤ z))
natural_difference a z h = go (pos a -ℤ z) (is_sum (pos a) (neg_ℤ z))
  where
    go : (w : ℤ) → above w + (below (pos a) + below (neg_ℤ z)) ≡ (above (pos a) + above (neg_ℤ z)) + below w → w ≡ pos (nat_abs w)
    go (pos n) e = refl
    go (negsuc n) e = absurd (omega (arith, nat_abs_parts (neg_ℤ z), nat_abs_negation z))

pub nat_abs_product : (x y : ℤ) → nat_abs (x *ℤ y) ≡ nat_abs x * nat_abs y
nat_abs_product (pos a) (pos b) = refl
nat_abs_product (pos a) (negsuc b) = nat_abs_negation (pos (a * suc b))
nat_abs_product (negsuc a) (pos b) = nat_abs_negation (pos (suc a * b))
nat_abs_product (negsuc a) (negsuc b) = refl

pub nat_abs_floor : (z : ℤ) (n m : ℕ) → 0 < m → nat_abs z ≤ n * m → nat_abs (z ÷ m) ≤ n
nat_abs_floor (pos a) n m p h = div-le_of_le-mul m (rw mul_comm h)
nat_abs_floor (negsuc a) n m p h = (div-lt_iff_lt-mul p).1 h

-- ---- a bound of it

pub magnitude_weaken : {z : ℤ} {n m : ℕ} → Magnitude z n → n ≤ m → Magnitude z m
magnitude_weaken a h = record { bound = le_trans a.bound h }

pub magnitude_pos : {n m : ℕ} → n ≤ m → Magnitude (pos n) m
magnitude_pos h = record { bound = h }

pub magnitude_negation : {z : ℤ} {n : ℕ} → Magnitude z n → Magnitude (neg_ℤ z) n
magnitude_negation {z} a = record { bound = rw (nat_abs_negation z) a.bound }

pub magnitude_sum : {y z : ℤ} {n m : ℕ} → Magnitude y n → Magnitude z m → Magnitude (y +ℤ z) (n + m)
magnitude_sum {y} {z} a b = record { bound = omega (arith, nat_abs_sum y z, a.bound, b.bound) }

pub magnitude_difference : {y z : ℤ} {n m : ℕ} → Magnitude y n → Magnitude z m → Magnitude (y -ℤ z) (n + m)
magnitude_difference a b = magnitude_sum a (magnitude_negation b)

pub magnitude_product : {y z : ℤ} {n m : ℕ} → Magnitude y n → Magnitude z m → Magnitude (y *ℤ z) (n * m)
magnitude_product {y} {z} a b = record { bound = rw (nat_abs_product y z) (mul-le-mul a.bound b.bound) }

pub magnitude_floor : {z : ℤ} {k : ℕ} (n m : ℕ) → 0 < m → k ≤ n * m → Magnitude z k → Magnitude (z ÷ m) n
magnitude_floor {z} n m p h a = record { bound = nat_abs_floor z n m p (le_trans a.bound h) }
