-- Two fractions of one value, and what carries over from one to the other. Assumes nothing.
use mathlib.Core.Path.{◌≡◌, sym, ◌∙◌, ap}
use Prim.Native.Nat.{ℕ, ◌*◌, ◌<◌}
use native.Mathlib.Nat.{mul-lt-mul_of_pos_right, lt_of_mul-lt-mul_right}
use native.Mathlib.Omega.{arith}
use lib.IntN.{ℤ, pos, ◌+ℤ◌, ◌-ℤ◌, ◌*ℤ◌, nat_abs, neg_ℤ}
use Rattle.arithmetic.specs.Floor.{◌÷◌}
use Rattle.arithmetic.specs.Fraction.{Fraction, ◌⊕◌, ◌⊖◌, opposite}
use Rattle.arithmetic.specs.Nearness.{gap, error}
use Rattle.arithmetic.proofs.Integer.{as_difference, same_difference, differences}
use Rattle.arithmetic.proofs.Magnitude.{nat_abs_product}
use Rattle.arithmetic.proofs.Floor.{floor_only}

pub record SameValue (f g : Fraction) : Type 0 where
  pub cross : f.num *ℤ pos g.den ≡ g.num *ℤ pos f.den

-- a common positive factor cancels
cancel : (x y : ℤ) (m : ℕ) → 0 < m → x *ℤ pos m ≡ y *ℤ pos m → x ≡ y
cancel x y m h e =
    sym (over x) ∙ ap (λ (z : ℤ). (z +ℤ pos 0) ÷ m) e ∙ over y
  where
    over : (z : ℤ) → (z *ℤ pos m +ℤ pos 0) ÷ m ≡ z
    over z = floor_only z m 0 h

exchange : (x : ℤ) (c d : ℕ) → x *ℤ pos c *ℤ pos d ≡ x *ℤ pos d *ℤ pos c
exchange x c d = rw (as_difference x) (simp differences (same_difference _ _ _ _ (omega arith)))

pub same_value_trans : {f g h : Fraction} → 0 < g.den → SameValue f g → SameValue g h → SameValue f h
same_value_trans {f} {g} {h} p a b = record {
  cross = cancel (f.num *ℤ pos h.den) (h.num *ℤ pos f.den) g.den p
      (exchange f.num h.den g.den
      ∙ ap (λ (z : ℤ). z *ℤ pos h.den) a.cross
      ∙ exchange g.num f.den h.den
      ∙ ap (λ (z : ℤ). z *ℤ pos f.den) b.cross
      ∙ exchange h.num g.den f.den);
}

-- ---- in the second part of a difference

difference_cross : (n m u : ℤ) (c d e : ℕ) → m *ℤ pos e ≡ u *ℤ pos d → (n *ℤ pos d -ℤ m *ℤ pos c) *ℤ pos (c * e) ≡ (n *ℤ pos e -ℤ u *ℤ pos c) *ℤ pos (c * d)
difference_cross n m u c d e h = left n m c d e ∙ ap (λ (z : ℤ). n *ℤ pos (d * (c * e)) -ℤ z *ℤ pos (c * c)) h ∙ sym (right n u c d e)
  where
    left : (n m : ℤ) (c d e : ℕ) → (n *ℤ pos d -ℤ m *ℤ pos c) *ℤ pos (c * e) ≡ n *ℤ pos (d * (c * e)) -ℤ m *ℤ pos e *ℤ pos (c * c)
    left n m c d e = rw (as_difference n, as_difference m) (simp differences (same_difference _ _ _ _ (omega arith)))

    right : (n u : ℤ) (c d e : ℕ) → (n *ℤ pos e -ℤ u *ℤ pos c) *ℤ pos (c * d) ≡ n *ℤ pos (d * (c * e)) -ℤ u *ℤ pos d *ℤ pos (c * c)
    right n u c d e = rw (as_difference n, as_difference u) (simp differences (same_difference _ _ _ _ (omega arith)))

opposite_product : (m : ℤ) (c : ℕ) → neg_ℤ m *ℤ pos c ≡ neg_ℤ (m *ℤ pos c)
opposite_product m c = rw (as_difference m) (simp differences (same_difference _ _ _ _ (omega arith)))

pub same_value_difference : (f : Fraction) {g h : Fraction} → SameValue g h → SameValue (f ⊖ g) (f ⊖ h)
unfolding ◌⊕◌ opposite
same_value_difference f {g} {h} a = record {
  cross = rw (opposite_product g.num f.den, opposite_product h.num f.den)
      (difference_cross f.num g.num h.num f.den g.den h.den a.cross);
}

-- ---- an error below one half

error_cross : (s : ℕ) (x n m : ℤ) (c d : ℕ) → n *ℤ pos d ≡ m *ℤ pos c → gap s x n c *ℤ pos d ≡ gap s x m d *ℤ pos c
unfolding gap
error_cross s x n m c d h = left x n ∙ ap (λ (z : ℤ). x *ℤ pos (c * d) -ℤ pos s *ℤ z) h ∙ sym (right x m)
  where
    left : (x n : ℤ) → (x *ℤ pos c -ℤ pos s *ℤ n) *ℤ pos d ≡ x *ℤ pos (c * d) -ℤ pos s *ℤ (n *ℤ pos d)
    left x n = rw (as_difference x, as_difference n) (simp differences (same_difference _ _ _ _ (omega arith)))

    right : (x m : ℤ) → (x *ℤ pos d -ℤ pos s *ℤ m) *ℤ pos c ≡ x *ℤ pos (c * d) -ℤ pos s *ℤ (m *ℤ pos c)
    right x m = rw (as_difference x, as_difference m) (simp differences (same_difference _ _ _ _ (omega arith)))

half_cross : (p q c d : ℕ) → 0 < c → p * d ≡ q * c → 2 * q < d → 2 * p < c
half_cross p q c d h e k = lt_of_mul-lt-mul_right d (omega (arith, mul-lt-mul_of_pos_right k h))

pub same_value_half : (s : ℕ) (x : ℤ) {f g : Fraction} → 0 < f.den → SameValue f g → 2 * nat_abs (error s x g) < g.den → 2 * nat_abs (error s x f) < f.den
same_value_half s x {f} {g} p a h =
    half_cross (nat_abs (error s x f)) (nat_abs (error s x g)) f.den g.den p
    (sym (nat_abs_product (error s x f) (pos g.den)) ∙ ap nat_abs (error_cross s x f.num g.num f.den g.den a.cross) ∙ nat_abs_product (error s x g) (pos f.den)) h
