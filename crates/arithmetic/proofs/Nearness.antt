-- A whole number near a multiple of a fraction: one law each for a whole number, the opposite, the sum, the product, the part
-- and the floor. Each law works out the error and the limit of its result from those of its parts. Quotient.antt has the
-- quotient. Letters: E and F are errors in hundredths, M and N limits, s and t scales, n / c and m / d the fractions.
-- Assumes nothing.
use mathlib.Core.Path.{◌≡◌, ◌∙◌, ap, ap₂}
use Prim.Native.Nat.{ℕ, ◌+◌, ◌*◌, ◌/◌, ◌<◌, ◌≤◌}
use native.Mathlib.Nat.{mul-le-mul_left, mul-le-mul_right, mul-le-mul, le_of_mul-le-mul_left, le_of_mul-le-mul_right, div-add-mod', mod-lt, le_trans}
use native.Mathlib.Omega.{arith}
use lib.IntN.{ℤ, pos, ◌+ℤ◌, ◌-ℤ◌, ◌*ℤ◌, neg_ℤ, nat_abs}
use lib.Dec.{lit<, lit≤}
use Rattle.arithmetic.specs.Floor.{◌÷◌}
use Rattle.arithmetic.specs.Fraction.{Fraction, ◌⊕◌, ◌⊗◌, ◌⊘◌, opposite, whole}
use Rattle.arithmetic.specs.Magnitude.{Magnitude}
use Rattle.arithmetic.specs.Nearness.{gap, error, Near}
use Rattle.arithmetic.proofs.Integer.{as_difference, same_difference, differences, product_regroup}
use Rattle.arithmetic.proofs.Magnitude.{nat_abs_sum, nat_abs_difference, nat_abs_product, nat_abs_negation}
use Rattle.arithmetic.proofs.Floor.{floor_near}

pub positive_product : {a b : ℕ} → 0 < a → 0 < b → 0 < a * b
positive_product h k = mul-le-mul h k

-- a is below the next multiple of m
pub below_next_multiple : (a m : ℕ) → 0 < m → a ≤ m * (a / m + 1)
below_next_multiple a m h = omega (arith, div-add-mod' a m, mod-lt a h)

nat_abs_two_products : (a x b y : ℤ) → nat_abs (a *ℤ x +ℤ b *ℤ y) ≤ nat_abs a * nat_abs x + nat_abs b * nat_abs y
nat_abs_two_products a x b y = rw (← (nat_abs_product a x), ← (nat_abs_product b y)) (nat_abs_sum (a *ℤ x) (b *ℤ y))

nat_abs_three_products : (a b u v : ℤ) (s t : ℕ) → nat_abs (a *ℤ b +ℤ (pos s *ℤ u *ℤ b +ℤ pos t *ℤ v *ℤ a)) ≤ nat_abs a * nat_abs b + (s * nat_abs u * nat_abs b + t * nat_abs v * nat_abs a)
nat_abs_three_products a b u v s t =
    omega (
      arith,
      nat_abs_sum (a *ℤ b) (pos s *ℤ u *ℤ b +ℤ pos t *ℤ v *ℤ a),
      nat_abs_two_products (pos s *ℤ u) b (pos t *ℤ v) a,
      nat_abs_product a b,
      ap (λ (w : ℕ). w * nat_abs b) (nat_abs_product (pos s) u),
      ap (λ (w : ℕ). w * nat_abs a) (nat_abs_product (pos t) v),
    )

-- ---- a larger error or limit holds too
pub near_weaken : {s E M : ℕ} {x : ℤ} {f : Fraction} (F N : ℕ) → Near s E M x f → E ≤ F → M ≤ N → Near s F N x f
near_weaken {f = f} F N h e m = record {
  positive = h.positive;
  close = le_trans h.close (mul-le-mul_right f.den e);
  size = le_trans h.size (mul-le-mul_right f.den m);
}

-- ---- a whole number is its own multiple
whole_gap : (s : ℕ) (z : ℤ) → gap s (pos s *ℤ z) z 1 ≡ pos 0
unfolding gap
whole_gap s z = rw (as_difference z) (simp differences (same_difference _ _ _ _ (omega arith)))

pub near_whole : (s : ℕ) (z : ℤ) → Near s 0 (s * nat_abs z) (pos s *ℤ z) (whole z)
unfolding whole
near_whole s z = record { positive = lit< tt; close = rw (whole_gap s z) (lit≤ tt); size = omega arith }

-- ---- the opposite, and with the sum so the difference
opposite_gap : (s : ℕ) (x n : ℤ) (c : ℕ) → gap s (neg_ℤ x) (neg_ℤ n) c ≡ neg_ℤ (gap s x n c)
unfolding gap
opposite_gap s x n c = rw (as_difference x, as_difference n) (simp differences (same_difference _ _ _ _ (omega arith)))

pub near_opposite : {s E M : ℕ} {x : ℤ} {f : Fraction} → Near s E M x f → Near s E M (neg_ℤ x) (opposite f)
unfolding opposite
near_opposite {s} {E} {M} {x} {f} h = record {
  positive = h.positive;
  close = rw (opposite_gap s x f.num f.den, nat_abs_negation (error s x f)) h.close;
  size = rw (nat_abs_negation f.num) h.size;
}

-- ---- the sum
sum_gap : (s : ℕ) (x y n m : ℤ) (c d : ℕ) → gap s (x +ℤ y) (n *ℤ pos d +ℤ m *ℤ pos c) (c * d) ≡ pos d *ℤ gap s x n c +ℤ pos c *ℤ gap s y m d
unfolding gap
sum_gap s x y n m c d =
    rw (as_difference x, as_difference y, as_difference n, as_difference m)
    (simp differences (same_difference _ _ _ _ (omega arith)))

sum_close : (p q E F c d : ℕ) → p * 100 ≤ E * c → q * 100 ≤ F * d → (d * p + c * q) * 100 ≤ (E + F) * (c * d)
sum_close p q E F c d h k = omega (arith, mul-le-mul_left d h, mul-le-mul_left c k)

sum_size : (s p q M N c d : ℕ) → s * p ≤ M * c → s * q ≤ N * d → s * (p * d + q * c) ≤ (M + N) * (c * d)
sum_size s p q M N c d h k = omega (arith, mul-le-mul_left d h, mul-le-mul_left c k)

pub near_sum : {s E F M N : ℕ} {x y : ℤ} {f g : Fraction} → Near s E M x f → Near s F N y g → Near s (E + F) (M + N) (x +ℤ y) (f ⊕ g)
unfolding ◌⊕◌
near_sum {s} {E} {F} {M} {N} {x} {y} {f} {g} h k =
    let n = f.num in
    let m = g.num in
    let c = f.den in
    let d = g.den in
    let p = error s x f in
    let q = error s y g in
    record {
      positive = positive_product h.positive k.positive;
      close = rw (sum_gap s x y n m c d)
          (le_trans (mul-le-mul_right 100 (nat_abs_two_products (pos d) p (pos c) q))
          (sum_close (nat_abs p) (nat_abs q) E F c d h.close k.close));
      size = le_trans (mul-le-mul_left s (nat_abs_two_products n (pos d) m (pos c)))
          (sum_size s (nat_abs n) (nat_abs m) M N c d h.size k.size);
    }

-- ---- the product: the errors' product, and each error times the other's size
product_of_gaps : (a b c d : ℤ) → a *ℤ c -ℤ b *ℤ d ≡ (a -ℤ b) *ℤ (c -ℤ d) +ℤ (b *ℤ (c -ℤ d) +ℤ d *ℤ (a -ℤ b))
product_of_gaps a b c d =
    rw (as_difference a, as_difference b, as_difference c, as_difference d)
    (simp differences (same_difference _ _ _ _ (omega arith)))

product_gap : (s t : ℕ) (x y n m : ℤ) (c d : ℕ) → gap (s * t) (x *ℤ y) (n *ℤ m) (c * d) ≡ gap s x n c *ℤ gap t y m d +ℤ (pos s *ℤ n *ℤ gap t y m d +ℤ pos t *ℤ m *ℤ gap s x n c)
unfolding gap
product_gap s t x y n m c d =
    ap₂ (λ (p q : ℤ). p -ℤ q) (product_regroup x y (pos c) (pos d)) (product_regroup (pos s) (pos t) n m)
    ∙ product_of_gaps (x *ℤ pos c) (pos s *ℤ n) (y *ℤ pos d) (pos t *ℤ m)

product_close : (p q u v E F M N c d : ℕ) → p * 100 ≤ E * c → q * 100 ≤ F * d → u ≤ M * c → v ≤ N * d → (p * q + (u * q + v * p)) * 100 ≤ (M * F + N * E + E * F) * (c * d)
product_close p q u v E F M N c d hp hq hu hv = omega (arith, one, two, three)
  where
    q_small : q ≤ F * d
    q_small = omega arith

    one : p * 100 * q ≤ E * c * (F * d)
    one = mul-le-mul hp q_small

    two : u * (q * 100) ≤ M * c * (F * d)
    two = mul-le-mul hu hq

    three : v * (p * 100) ≤ N * d * (E * c)
    three = mul-le-mul hv hp

product_size : (s t p q M N c d : ℕ) → s * p ≤ M * c → t * q ≤ N * d → s * t * (p * q) ≤ M * N * (c * d)
product_size s t p q M N c d h k = omega (arith, mul-le-mul h k)

pub near_product : {s t E F M N : ℕ} {x y : ℤ} {f g : Fraction} → Near s E M x f → Near t F N y g → Near (s * t) (M * F + N * E + E * F) (M * N) (x *ℤ y) (f ⊗ g)
unfolding ◌⊗◌
near_product {s} {t} {E} {F} {M} {N} {x} {y} {f} {g} h k =
    let n = f.num in
    let m = g.num in
    let c = f.den in
    let d = g.den in
    let p = error s x f in
    let q = error t y g in
    record {
      positive = positive_product h.positive k.positive;
      close = rw (product_gap s t x y n m c d)
          (le_trans (mul-le-mul_right 100 (nat_abs_three_products p q n m s t))
          (product_close (nat_abs p) (nat_abs q) (s * nat_abs n) (t * nat_abs m) E F M N c d h.close k.close h.size k.size));
      size = rw (nat_abs_product n m) (product_size s t (nat_abs n) (nat_abs m) M N c d h.size k.size);
    }

-- ---- the c-th part: at c times the scale, the same number
part_gap : (s c : ℕ) (x n : ℤ) (d : ℕ) → gap (s * c) x (n *ℤ pos 1) (d * c) ≡ pos c *ℤ gap s x n d
unfolding gap
part_gap s c x n d = rw (as_difference x, as_difference n) (simp differences (same_difference _ _ _ _ (omega arith)))

pub near_part : {s E M : ℕ} {x : ℤ} {f : Fraction} (c : ℕ) → 0 < c → Near s E M x f → Near (s * c) E M x (f ⊘ whole (pos c))
unfolding ◌⊘◌ whole
near_part {s} {E} {M} {x} {f} c p h = record {
  positive = positive_product h.positive p;
  close = rw (part_gap s c x f.num f.den, nat_abs_product (pos c) (error s x f)) (omega (arith, mul-le-mul_left c h.close));
  size = rw (nat_abs_product f.num (pos 1)) (omega (arith, mul-le-mul_left c h.size));
}

-- ---- the floor by m, of a number at m times the scale: one unit more
floor_gap : (s m : ℕ) (x z n : ℤ) (c : ℕ) → pos m *ℤ gap s z n c ≡ gap (s * m) x n c -ℤ (x -ℤ z *ℤ pos m) *ℤ pos c
unfolding gap
floor_gap s m x z n c =
    rw (as_difference x, as_difference z, as_difference n) (simp differences (same_difference _ _ _ _ (omega arith)))

floor_nat_abs : (m : ℕ) (a b r : ℤ) (c : ℕ) → pos m *ℤ a ≡ b -ℤ r *ℤ pos c → nat_abs r ≤ m → m * nat_abs a ≤ nat_abs b + m * c
floor_nat_abs m a b r c e h =
    omega (arith, nat_abs_product (pos m) a, ap nat_abs e, nat_abs_difference b (r *ℤ pos c), nat_abs_product r (pos c), mul-le-mul_right c h)

floor_close : (m p q E c : ℕ) → 0 < m → m * p ≤ q + m * c → q * 100 ≤ E * c → p * 100 ≤ (E / m + 101) * c
floor_close m p q E c h k l =
    le_of_mul-le-mul_left {k = m} (omega (arith, mul-le-mul_right c (below_next_multiple E m h))) h

floor_size : (s m p M c : ℕ) → 0 < m → s * m * p ≤ M * c → s * p ≤ (M / m + 1) * c
floor_size s m p M c h k =
    le_of_mul-le-mul_left {k = m} (omega (arith, mul-le-mul_right c (below_next_multiple M m h))) h

pub near_floor : {s E M : ℕ} {x : ℤ} {f : Fraction} (m : ℕ) → 0 < m → Near (s * m) E M x f → Near s (E / m + 101) (M / m + 1) (x ÷ m) f
near_floor {s} {E} {M} {x} {f} m p h =
    let after = error s (x ÷ m) f in
    let before = error (s * m) x f in
    record {
      positive = h.positive;
      close = floor_close m (nat_abs after) (nat_abs before) E f.den p
          (floor_nat_abs m after before (x -ℤ (x ÷ m) *ℤ pos m) f.den
          (floor_gap s m x (x ÷ m) f.num f.den) (floor_near x m p)) h.close;
      size = floor_size s m (nat_abs f.num) M f.den p h.size;
    }

-- ---- the fraction's size from the number's, and the number's from the fraction's
multiple_gap : (s : ℕ) (x n : ℤ) (c : ℕ) → pos s *ℤ n ≡ x *ℤ pos c -ℤ gap s x n c
unfolding gap
multiple_gap s x n c = rw (as_difference x, as_difference n) (simp differences (same_difference _ _ _ _ (omega arith)))

pub number_gap : (s : ℕ) (x n : ℤ) (c : ℕ) → x *ℤ pos c ≡ pos s *ℤ n +ℤ gap s x n c
unfolding gap
number_gap s x n c = rw (as_difference x, as_difference n) (simp differences (same_difference _ _ _ _ (omega arith)))

pub near_number : {s E B : ℕ} {x : ℤ} {f : Fraction} → 0 < f.den → nat_abs (error s x f) * 100 ≤ E * f.den → Magnitude x B → Near s E (B + E) x f
near_number {s} {E} {B} {x} {f} p e b =
    let n = f.num in
    let c = f.den in
    record {
      positive = p;
      close = e;
      size = omega (
        arith,
        nat_abs_product (pos s) n,
        ap nat_abs (multiple_gap s x n c),
        nat_abs_difference (x *ℤ pos c) (error s x f),
        nat_abs_product x (pos c),
        mul-le-mul_right c b.bound,
        e,
      );
    }

pub near_magnitude : {s E M : ℕ} {x : ℤ} {f : Fraction} → Near s E M x f → Magnitude x (M + E)
near_magnitude {s} {E} {M} {x} {f} h =
    let n = f.num in
    let c = f.den in
    record {
      bound = le_of_mul-le-mul_right {k = c}
          (omega (
            arith,
            nat_abs_product (pos s) n,
            ap nat_abs (number_gap s x n c),
            nat_abs_sum (pos s *ℤ n) (error s x f),
            nat_abs_product x (pos c),
            h.close,
            h.size,
          )) h.positive;
    }
