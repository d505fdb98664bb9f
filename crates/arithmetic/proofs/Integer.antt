-- Identities of integers. Every integer is a difference of two natural numbers, so an identity of integers is one of
-- naturals, which `omega` multiplies out: `rw (as_difference x, ..) (simp differences (same_difference _ _ _ _ (omega arith)))`.
-- Assumes nothing.
use mathlib.Core.Path.{◌≡◌, refl, ◌∙◌, ap}
use mathlib.Core.Bool.{Bool, true, false, not, cond}
use Prim.Native.Nat.{ℕ, zero, suc, ◌+◌, ◌*◌, ◌-◌, ◌<◌, ◌≤◌}
use native.Mathlib.Omega.{arith}
use lib.Dec.{T, ltb, ltb→lt, nltb→le}
use lib.IntN.{ℤ, pos, negsuc, sub_ℕ, ◌+ℤ◌, ◌*ℤ◌, neg_ℤ}

-- how far an integer is above 0, and how far below
abbrev pub above : ℤ → ℕ
above (pos a) = a
above (negsuc a) = 0

abbrev pub below : ℤ → ℕ
below (pos a) = 0
below (negsuc a) = suc a

-- z is a less b
abbrev pub Is : ℤ → ℕ → ℕ → Type 0
Is z a b = above z + b ≡ a + below z

pub difference : ℕ → ℕ → ℤ
difference a b = sub_ℕ a b

-- what holds of both results of a test holds of the test's
pub by_test : (c : Bool) (x y : ℤ) (P : ℤ → Type 0) → (T c → P x) → (T (not c) → P y) → P (cond c x y)
by_test true x y P f g = f tt
by_test false x y P f g = g tt

-- a difference by its two cases
pub by_order : (a b : ℕ) (P : ℤ → Type 0) → (a < b → P (negsuc (b - suc a))) → (b ≤ a → P (pos (a - b))) → P (difference a b)
unfolding difference
by_order a b P f g =
    by_test (ltb a b) (negsuc (b - suc a)) (pos (a - b)) P (λ t. f (ltb→lt a b t)) (λ t. g (nltb→le a b t))

is_difference : (a b : ℕ) → Is (difference a b) a b
is_difference a b = by_order a b (λ z. Is z a b) (λ h. omega arith) (λ h. omega arith)

only_difference : (z : ℤ) (a b : ℕ) → Is z a b → z ≡ difference a b
only_difference (pos n) a b e =
    by_order a b (λ z. pos n ≡ z) (λ h. absurd (omega arith)) (λ h. ap pos (omega arith))
only_difference (negsuc n) a b e =
    by_order a b (λ z. negsuc n ≡ z) (λ h. ap negsuc (omega arith)) (λ h. absurd (omega arith))

pub as_difference : (z : ℤ) → z ≡ difference (above z) (below z)
as_difference z = only_difference z (above z) (below z) refl

pub same_difference : (a b c d : ℕ) → a + d ≡ c + b → difference a b ≡ difference c d
same_difference a b c d e = only_difference (difference a b) c d (omega (arith, is_difference a b))

-- ---- each operation on differences

pub difference_pos : (n : ℕ) → pos n ≡ difference n 0
difference_pos n = only_difference (pos n) n 0 refl

pub difference_negsuc : (n : ℕ) → negsuc n ≡ difference 0 (suc n)
difference_negsuc n = only_difference (negsuc n) 0 (suc n) refl

is_negation : (z : ℤ) → Is (neg_ℤ z) (below z) (above z)
is_negation (pos zero) = refl
is_negation (pos (suc n)) = omega arith
is_negation (negsuc n) = omega arith

pub difference_neg : (a b : ℕ) → neg_ℤ (difference a b) ≡ difference b a
difference_neg a b =
    only_difference (neg_ℤ (difference a b)) b a (omega (arith, is_negation (difference a b), is_difference a b))

pub is_sum : (x y : ℤ) → Is (x +ℤ y) (above x + above y) (below x + below y)
unfolding difference
is_sum (pos a) (pos b) = omega arith
is_sum (pos a) (negsuc b) = omega (arith, is_difference a (suc b))
is_sum (negsuc a) (pos b) = omega (arith, is_difference b (suc a))
is_sum (negsuc a) (negsuc b) = omega arith

pub difference_sum : (a b c d : ℕ) → difference a b +ℤ difference c d ≡ difference (a + c) (b + d)
difference_sum a b c d =
    only_difference (difference a b +ℤ difference c d) (a + c) (b + d)
    (omega (arith, is_sum (difference a b) (difference c d), is_difference a b, is_difference c d))

is_product : (x y : ℤ) → Is (x *ℤ y) (above x * above y + below x * below y) (above x * below y + below x * above y)
is_product (pos a) (pos b) = omega arith
is_product (pos a) (negsuc b) = omega (arith, is_negation (pos (a * suc b)))
is_product (negsuc a) (pos b) = omega (arith, is_negation (pos (suc a * b)))
is_product (negsuc a) (negsuc b) = omega arith

-- the product depends on the differences alone
product_same : (u v s t a b c d : ℕ) → u + b ≡ a + v → s + d ≡ c + t → (u * s + v * t) + (a * d + b * c) ≡ (a * c + b * d) + (u * t + v * s)
product_same u v s t a b c d p q =
    omega (arith, ap (λ (n : ℕ). n * s) p, ap (λ (n : ℕ). n * t) p, ap (λ (n : ℕ). a * n) q, ap (λ (n : ℕ). b * n) q)

pub difference_product : (a b c d : ℕ) → difference a b *ℤ difference c d ≡ difference (a * c + b * d) (a * d + b * c)
difference_product a b c d =
    let x = difference a b in
    let y = difference c d in
    only_difference (x *ℤ y) (a * c + b * d) (a * d + b * c)
    (omega (arith, is_product x y, product_same (above x) (below x) (above y) (below y) a b c d (is_difference a b) (is_difference c d)))

-- the rules that bring an expression over differences to one difference
pub ruleset differences = (difference_sum, difference_product, difference_neg, difference_pos, difference_negsuc)

-- ---- the laws that later files cite by name

pub product_assoc : (x y z : ℤ) → x *ℤ y *ℤ z ≡ x *ℤ (y *ℤ z)
product_assoc x y z =
    rw (as_difference x, as_difference y, as_difference z) (simp differences (same_difference _ _ _ _ (omega arith)))

pub product_over_sum : (x y z : ℤ) → x *ℤ (y +ℤ z) ≡ x *ℤ y +ℤ x *ℤ z
product_over_sum x y z =
    rw (as_difference x, as_difference y, as_difference z) (simp differences (same_difference _ _ _ _ (omega arith)))

-- (x y)(z w) is (x z)(y w)
pub product_regroup : (x y z w : ℤ) → x *ℤ y *ℤ (z *ℤ w) ≡ x *ℤ z *ℤ (y *ℤ w)
product_regroup x y z w =
    rw (as_difference x, as_difference y, as_difference z, as_difference w)
    (simp differences (same_difference _ _ _ _ (omega arith)))

pub difference_of_naturals : (a b : ℕ) → b ≤ a → neg_ℤ (pos b) +ℤ pos a ≡ pos (a - b)
difference_of_naturals a b h =
    ap (λ (z : ℤ). neg_ℤ z +ℤ pos a) (difference_pos b) ∙ simp differences (same_difference _ _ _ _ (omega arith))
