-- The quotient of two numbers near fractions, the second positive: near the fractions' quotient. Assumes nothing.
use mathlib.Core.Path.{◌≡◌, refl, ap, subst}
use Prim.Native.Nat.{ℕ, zero, suc, ◌+◌, ◌*◌, ◌/◌, ◌<◌, ◌≤◌}
use native.Mathlib.Nat.{mul-le-mul_left, mul-le-mul_right, mul-le-mul, le_of_mul-le-mul_left, le_trans}
use native.Mathlib.Omega.{arith}
use lib.IntN.{ℤ, pos, negsuc, ◌-ℤ◌, ◌*ℤ◌, nat_abs}
use Rattle.arithmetic.specs.Floor.{◌÷◌}
use Rattle.arithmetic.specs.Fraction.{Fraction, ◌⊘◌}
use Rattle.arithmetic.specs.Nearness.{gap, error, Near}
use Rattle.arithmetic.proofs.Integer.{as_difference, same_difference, differences}
use Rattle.arithmetic.proofs.Magnitude.{nat_abs_sum, nat_abs_difference, nat_abs_product}
use Rattle.arithmetic.proofs.Floor.{floor_near}
use Rattle.arithmetic.proofs.Nearness.{positive_product, below_next_multiple, number_gap}

-- ---- the divisor: its fraction is positive too, and not much smaller

negative_gap : (s D m d : ℕ) → gap s (pos D) (negsuc m) d ≡ pos (D * d + s * suc m)
unfolding gap
negative_gap s D m d = simp differences (same_difference _ _ _ _ (omega arith))

-- where D is at least L and the error F, s times the fraction is at least L
pub divisor_fraction_positive : (s D L F d : ℕ) (m : ℤ) → nat_abs (gap s (pos D) m d) * 100 ≤ F * d → L + F ≤ D → 0 < L → 0 < d → (m ≡ pos (nat_abs m)) × (L * d ≤ s * nat_abs m)
unfolding gap
divisor_fraction_positive s D L F d (pos m) h l p q =
    (refl, omega (arith, ap nat_abs (number_gap s (pos D) (pos m) d), nat_abs_sum (pos s *ℤ pos m) (gap s (pos D) (pos m) d), mul-le-mul_right d l))
divisor_fraction_positive s D L F d (negsuc m) h l p q =
    absurd (omega (arith, ap nat_abs (negative_gap s D m d), mul-le-mul_right d l, positive_product p q))

positive_factor : (s L d m : ℕ) → 0 < L → 0 < d → L * d ≤ s * m → 0 < m
positive_factor s L d zero hl hd h = absurd (omega (arith, positive_product hl hd))
positive_factor s L d (suc m) hl hd h = omega arith

-- ---- the quotient's error

quotient_gap : (s D m : ℕ) (a z n : ℤ) (c d : ℕ) → pos D *ℤ gap 1 z (n *ℤ pos d) (c * m) ≡ (pos m *ℤ gap s a n c -ℤ n *ℤ gap s (pos D) (pos m) d) -ℤ (a -ℤ z *ℤ pos D) *ℤ pos (c * m)
unfolding gap
quotient_gap s D m a z n c d =
    rw (as_difference a, as_difference z, as_difference n) (simp differences (same_difference _ _ _ _ (omega arith)))

quotient_nat_abs : (D m : ℕ) (p a n b r : ℤ) (e : ℕ) → pos D *ℤ p ≡ (pos m *ℤ a -ℤ n *ℤ b) -ℤ r *ℤ pos e → nat_abs r ≤ D → D * nat_abs p ≤ m * nat_abs a + nat_abs n * nat_abs b + D * e
quotient_nat_abs D m p a n b r e q h =
    omega (
      arith,
      nat_abs_product (pos D) p,
      ap nat_abs q,
      nat_abs_difference (pos m *ℤ a -ℤ n *ℤ b) (r *ℤ pos e),
      nat_abs_difference (pos m *ℤ a) (n *ℤ b),
      nat_abs_product (pos m) a,
      nat_abs_product n b,
      nat_abs_product r (pos e),
      mul-le-mul_right e h,
    )

quotient_limit : (s L N d M c m : ℕ) → 0 < s → s * N ≤ M * c → L * d ≤ s * m → L * (N * d) ≤ M * (c * m)
quotient_limit s L N d M c m h k l = le_of_mul-le-mul_left {k = s} (omega (arith, mul-le-mul k l)) h

-- in steps, since `omega` leaves out a fact of too high a degree
quotient_step_1 : (D p P R N m c d E F : ℕ) → D * p ≤ m * P + N * R + D * (c * m) → P * 100 ≤ E * c → R * 100 ≤ F * d → D * p * 100 ≤ E * (c * m) + F * (N * d) + D * (c * m) * 100
quotient_step_1 D p P R N m c d E F h hP hR = omega (arith, mul-le-mul_left m hP, mul-le-mul_left N hR)

quotient_step_2 : (D L p G X E F M : ℕ) → D * p * 100 ≤ E * G + F * X + D * G * 100 → L * X ≤ M * G → L * (D * p * 100) ≤ (E * L + M * F) * G + L * (D * G * 100)
quotient_step_2 D L p G X E F M h k = omega (arith, mul-le-mul_left L h, mul-le-mul_left F k)

quotient_step_3 : (D L G W k : ℕ) → L ≤ D → W ≤ L * L * (k + 1) → W * G ≤ D * L * (k + 1) * G
quotient_step_3 D L G W k hd hk = mul-le-mul_right G (le_trans hk (mul-le-mul_right (k + 1) (mul-le-mul_right L hd)))

quotient_step_4 : (Z p G W k : ℕ) → Z * p * 100 ≤ W + Z * G * 100 → W ≤ Z * (k + 1) * G → Z * (p * 100) ≤ Z * ((k + 101) * G)
quotient_step_4 Z p G W k h l = omega arith

quotient_close : (D L p P R N m c d E F M k : ℕ) → 0 < L → L ≤ D → D * p ≤ m * P + N * R + D * (c * m) → P * 100 ≤ E * c → R * 100 ≤ F * d → L * (N * d) ≤ M * (c * m) → E * L + M * F ≤ L * L * (k + 1) → p * 100 ≤ (k + 101) * (c * m)
quotient_close D L p P R N m c d E F M k hl hd h hP hR hN hk =
    le_of_mul-le-mul_left {k = D * L}
    (quotient_step_4 (D * L) p (c * m) ((E * L + M * F) * (c * m)) k
    (omega (arith, quotient_step_2 D L p (c * m) (N * d) E F M (quotient_step_1 D p P R N m c d E F h hP hR) hN))
    (quotient_step_3 D L (c * m) (E * L + M * F) k hd hk))
    (positive_product (le_trans hl hd) hl)

quotient_size : (L M N d c m : ℕ) → 0 < L → L * (N * d) ≤ M * (c * m) → 1 * (N * d) ≤ (M / L + 1) * (c * m)
quotient_size L M N d c m h k =
    le_of_mul-le-mul_left {k = L} (omega (arith, mul-le-mul_right (c * m) (below_next_multiple M L h))) h

-- a / D, rounded down, where the divisor D is at least L, beside its error
pub near_quotient : {s E F M N : ℕ} {a : ℤ} {f g : Fraction} (L D : ℕ) → 0 < s → 0 < L → L + F ≤ D → Near s E M a f → Near s F N (pos D) g → Near 1 ((E * L + M * F) / (L * L) + 101) (M / L + 1) (a ÷ D) (f ⊘ g)
unfolding ◌⊘◌
near_quotient {s} {E} {F} {M} {N} {a} {f} {g} L D hs hl hd h k =
    let n = f.num in
    let c = f.den in
    let d = g.den in
    let m = nat_abs g.num in
    let z = a ÷ D in
    let divisor : (g.num ≡ pos m) × (L * d ≤ s * m) = divisor_fraction_positive s D L F d g.num k.close hd hl k.positive in
    let limit : L * (nat_abs n * d) ≤ M * (c * m) = quotient_limit s L (nat_abs n) d M c m hs h.size divisor.1 in
    let after = gap 1 z (n *ℤ pos d) (c * m) in
    let above = error s a f in
    let under = gap s (pos D) (pos m) d in
    record {
      positive = positive_product h.positive (positive_factor s L d m hl k.positive divisor.1);
      close = quotient_close D L (nat_abs after) (nat_abs above) (nat_abs under) (nat_abs n) m c d E F M ((E * L + M * F) / (L * L)) hl (omega arith)
          (quotient_nat_abs D m after above n under (a -ℤ z *ℤ pos D) (c * m) (quotient_gap s D m a z n c d) (floor_near a D (omega arith)))
          h.close
          (subst (λ (w : ℤ). nat_abs (gap s (pos D) w d) * 100 ≤ F * d) divisor.0 k.close)
          limit (below_next_multiple (E * L + M * F) (L * L) (positive_product hl hl));
      size = rw (nat_abs_product n (pos d)) (quotient_size L M (nat_abs n) d c m hl limit);
    }
