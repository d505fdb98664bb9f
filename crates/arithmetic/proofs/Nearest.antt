-- The nearest whole number to a multiple of a fraction, from a bound of its error. Assumes nothing.
use mathlib.Core.Logic.{◌≢◌}
use mathlib.Core.Path.{◌≡◌, refl, sym, ◌∙◌, ap}
use Prim.Native.Nat.{ℕ, zero, suc, ◌+◌, ◌*◌, ◌-◌, ◌<◌, ◌≤◌}
use native.Mathlib.Nat.{mul-le-mul_right}
use native.Mathlib.Omega.{arith}
use lib.IntN.{ℤ, pos, negsuc, ◌+ℤ◌, ◌-ℤ◌, ◌*ℤ◌, nat_abs, +ℤ_idl, -ℤ-+ℤ_cancel}
use Rattle.arithmetic.specs.Fraction.{Fraction}
use Rattle.arithmetic.specs.Nearness.{gap, error, Nearest, nearest}
use Rattle.arithmetic.proofs.Integer.{above, below, as_difference, same_difference, differences}
use Rattle.arithmetic.proofs.Magnitude.{nat_abs_parts, nat_abs_difference, nat_abs_product}
use Rattle.arithmetic.proofs.Floor.{floor_only}

zero_magnitude : (z : ℤ) → nat_abs z < 1 → z ≡ pos 0
zero_magnitude (pos zero) h = refl
zero_magnitude (pos (suc n)) h = absurd (omega arith)
zero_magnitude (negsuc n) h = absurd (omega arith)

-- two integers that differ are at least 1 apart
apart : (x y : ℤ) → y ≢ x → nat_abs (y -ℤ x) < 1 → ⊥
apart x y ne h =
    ne (sym (-ℤ-+ℤ_cancel y x) ∙ ap (λ (z : ℤ). z +ℤ x) (zero_magnitude (y -ℤ x) h) ∙ +ℤ_idl x)

gap_between : (s : ℕ) (x y n : ℤ) (c : ℕ) → (y -ℤ x) *ℤ pos c ≡ gap s y n c -ℤ gap s x n c
unfolding gap
gap_between s x y n c =
    rw (as_difference x, as_difference y, as_difference n) (simp differences (same_difference _ _ _ _ (omega arith)))

nearer_by : (p q k c : ℕ) → 2 * p < c → 1 ≤ k → k * c ≤ q + p → p < q
nearer_by p q k c h l b = omega (arith, mul-le-mul_right c l)

-- an error below one half makes the number the nearest
pub nearest_rule : (s : ℕ) (f : Fraction) (x : ℤ) → 0 < f.den → 2 * nat_abs (error s x f) < f.den → Nearest s f x
nearest_rule s f x p h = record {
  positive = p;
  nearer = λ y ne.
      let c = f.den in
      nearer_by (nat_abs (error s x f)) (nat_abs (error s y f)) (nat_abs (y -ℤ x)) c h (at_least_one (nat_abs (y -ℤ x)) (apart x y ne))
      (omega (arith, nat_abs_product (y -ℤ x) (pos c), ap nat_abs (gap_between s x y f.num c), nat_abs_difference (error s y f) (error s x f)));
}
  where
    at_least_one : (k : ℕ) → (k < 1 → ⊥) → 1 ≤ k
    at_least_one zero f = absurd (f (omega arith))
    at_least_one (suc k) f = omega arith

-- ---- and the only value of `nearest`

nearest_identity : (s : ℕ) (x n : ℤ) (c : ℕ) → pos (2 * s) *ℤ n +ℤ pos c ≡ x *ℤ pos (2 * c) +ℤ (pos c -ℤ pos 2 *ℤ gap s x n c)
unfolding gap
nearest_identity s x n c =
    rw (as_difference x, as_difference n) (simp differences (same_difference _ _ _ _ (omega arith)))

rest_of : (g : ℤ) (c r : ℕ) → r + 2 * above g ≡ c + 2 * below g → pos c -ℤ pos 2 *ℤ g ≡ pos r
rest_of g c r e = rw (as_difference g) (simp differences (same_difference _ _ _ _ (omega arith)))

pub nearest_only : (s : ℕ) (f : Fraction) (x : ℤ) → 2 * nat_abs (error s x f) < f.den → nearest s f ≡ x
unfolding nearest
nearest_only s f x h =
    let c = f.den in
    let g = error s x f in
    let r = c + 2 * below g - 2 * above g in
    let small : 2 * above g + 2 * below g < c = omega (arith, nat_abs_parts g) in
    rw (nearest_identity s x f.num c, rest_of g c r (omega arith)) (floor_only x (2 * c) r (omega arith))
