-- The order of integers, as one of natural numbers. Assumes nothing.
use mathlib.Core.Path.{◌≡◌, refl, sym, subst}
use mathlib.Core.Bool.{Bool, true, false, not}
use Prim.Native.Nat.{ℕ, ◌+◌, ◌*◌, ◌<◌, ◌≤◌}
use native.Mathlib.Nat.{mul-le-mul, le-div_iff_mul-le}
use native.Mathlib.Omega.{arith}
use lib.Dec.{T, leb→le, le→leb, ltb→lt}
use lib.IntN.{ℤ, pos, negsuc, nat_abs, ◌+ℤ◌, ◌*ℤ◌}
use lib.Signed.{◌<ℤ◌, ◌≤ℤ◌, lt_z, lt_z_yes, lt_z_no}
use Rattle.arithmetic.specs.Floor.{◌÷◌}
use Rattle.arithmetic.specs.Magnitude.{Magnitude}
use Rattle.arithmetic.proofs.Integer.{above, below, is_sum}
use Rattle.arithmetic.proofs.Magnitude.{nat_abs_parts}

-- an integer that is at least a natural number is one
pub at_least : (a : ℕ) (z : ℤ) → pos a ≤ℤ z → (z ≡ pos (nat_abs z)) × (a ≤ nat_abs z)
at_least a (pos n) h = (refl, leb→le a n h.le)
at_least a (negsuc n) h = absurd h.le

pub pos_≤ℤ : {a b : ℕ} → a ≤ b → pos a ≤ℤ pos b
pos_≤ℤ {a} {b} h = record { le = le→leb a b h }

-- what a test of two integers says
pub test_below : (a b : ℤ) → lt_z a b ≡ true → a <ℤ b
test_below a b e = lt_z_yes (subst T (sym e) tt)

pub test_not_below : (a b : ℤ) → lt_z a b ≡ false → b ≤ℤ a
test_not_below a b e = lt_z_no (subst (λ (t : Bool). T (not t)) (sym e) tt)

-- a natural number is not below 0
pub not_negative : {n : ℕ} → pos n <ℤ pos 0 → ⊥
not_negative {n} h = omega (arith, ltb→lt n 0 h.lt)

-- ---- an integer that is at least a natural number, through products, sums and floors

pub at_least_product : {a b : ℕ} {x y : ℤ} → pos a ≤ℤ x → pos b ≤ℤ y → pos (a * b) ≤ℤ (x *ℤ y)
at_least_product {a} {b} {x} {y} h k =
    rw ((at_least a x h).0, (at_least b y k).0) (pos_≤ℤ (mul-le-mul (at_least a x h).1 (at_least b y k).1))

pub at_least_sum : {a b : ℕ} {x y : ℤ} → pos a ≤ℤ x → pos b ≤ℤ y → pos (a + b) ≤ℤ (x +ℤ y)
at_least_sum {a} {b} {x} {y} h k =
    rw ((at_least a x h).0, (at_least b y k).0) (pos_≤ℤ (omega (arith, (at_least a x h).1, (at_least b y k).1)))

-- where the second may be negative
pub at_least_less : {a b c : ℕ} {x y : ℤ} → pos a ≤ℤ x → Magnitude y b → b + c ≤ a → pos c ≤ℤ (x +ℤ y)
at_least_less {a} {b} {c} {x} {y} h k l =
    rw (at_least a x h).0 (go (pos (nat_abs x) +ℤ y) (is_sum (pos (nat_abs x)) y))
  where
    go : (z : ℤ) → above z + (0 + below y) ≡ (nat_abs x + above y) + below z → pos c ≤ℤ z
    go (pos n) e = pos_≤ℤ (omega (arith, (at_least a x h).1, nat_abs_parts y, k.bound))
    go (negsuc n) e = absurd (omega (arith, (at_least a x h).1, nat_abs_parts y, k.bound))

pub at_least_floor : (c m : ℕ) (z : ℤ) → 0 < m → pos (c * m) ≤ℤ z → pos c ≤ℤ (z ÷ m)
at_least_floor c m (pos n) p h = pos_≤ℤ ((le-div_iff_mul-le p).1 (leb→le (c * m) n h.le))
at_least_floor c m (negsuc n) p h = absurd h.le
