-- The two series by nesting, x^n/n! (1 - x^2/((n+1)(n+2)) (1 - ..)): the same values in smaller numbers, for the tests of the
-- tables. Assumes nothing.
use mathlib.Core.Path.{◌≡◌, ap₂}
use Prim.Native.Nat.{ℕ, zero, suc, ◌+◌, ◌*◌, ◌^◌, ◌<◌}
use native.Mathlib.Nat.{one-le-pow, pow-suc}
use native.Mathlib.Numerals.{add-two}
use native.Mathlib.Omega.{arith}
use lib.Dec.{lit<}
use lib.IntN.{ℤ, pos, neg_ℤ, ◌+ℤ◌, ◌*ℤ◌}
use Rattle.arithmetic.specs.Fraction.{Fraction, ◌⊕◌, ◌⊖◌, ◌⊗◌, opposite, whole}
use Rattle.arithmetic.proofs.Integer.{as_difference, same_difference, differences, product_assoc}
use Rattle.arithmetic.proofs.Nearness.{positive_product}
use Rattle.arithmetic.proofs.Value.{SameValue, same_value_trans, same_value_difference}
use Rattle.sine_series.specs.Series.{arc, arc_unit, factorial, term, alternating}

-- x^2/((n+1)(n+2)), by which a term differs from the next
unfoldable pub ratio : ℕ → ℕ → Fraction
ratio t n = record { num = pos (arc t * arc t); den = arc_unit * arc_unit * ((n + 1) * (n + 2)) }

unfoldable pub nested : ℕ → ℕ → ℕ → Fraction
nested t zero n = whole (pos 1)
nested t (suc k) n = whole (pos 1) ⊖ ratio t n ⊗ nested t k (n + 2)

-- ---- denominators

factorial_positive : (n : ℕ) → 0 < factorial n
unfolding factorial
factorial_positive zero = lit< tt
factorial_positive (suc n) = positive_product (omega arith) (factorial_positive n)

term_positive : (t n : ℕ) → 0 < (term t n).den
unfolding term arc_unit
term_positive t n = positive_product (one-le-pow n arc_unit (lit< tt)) (factorial_positive n)

pub alternating_positive : (t k n : ℕ) → 0 < (alternating t k n).den
unfolding alternating ◌⊕◌ opposite
alternating_positive t zero n = term_positive t n
alternating_positive t (suc k) n = positive_product (term_positive t n) (alternating_positive t k (n + 2))

ratio_positive : (t n : ℕ) → 0 < (ratio t n).den
unfolding ratio arc_unit
ratio_positive t n = positive_product (lit< tt) (positive_product (omega arith) (omega arith))

nested_positive : (t k n : ℕ) → 0 < (nested t k n).den
unfolding nested whole ◌⊕◌ ◌⊗◌ opposite
nested_positive t zero n = lit< tt
nested_positive t (suc k) n = positive_product (lit< tt) (positive_product (ratio_positive t n) (nested_positive t k (n + 2)))

-- ---- a term from the one before

power_two_more : (a n : ℕ) → a ^ (n + 2) ≡ a ^ n * (a * a)
power_two_more a n = rw (add-two n, pow-suc a (suc n), pow-suc a n) (omega arith)

factorial_two_more : (n : ℕ) → factorial (n + 2) ≡ factorial n * ((n + 1) * (n + 2))
unfolding factorial
factorial_two_more n = rw add-two (omega arith)

next_term : (t n : ℕ) → term t (n + 2) ≡ term t n ⊗ ratio t n
unfolding term ratio ◌⊗◌
next_term t n =
    ap₂ {C = Fraction} (λ (a b : ℕ). record { num = pos a; den = b }) (power_two_more (arc t) n)
    (rw (power_two_more arc_unit n, factorial_two_more n) (omega arith))

-- ---- by induction, each series is its first term times the nested one

-- p/q is p/q times 1
first_cross : (p : ℤ) (q : ℕ) → p *ℤ pos (q * 1) ≡ p *ℤ pos 1 *ℤ pos q
first_cross p q = rw (as_difference p) (simp differences (same_difference _ _ _ _ (omega arith)))

-- p/q less p/q b/m h/e is p/q (1 - b/m h/e)
step_cross : (p b h : ℤ) (q m e : ℕ) → (p *ℤ pos (q * m * e) +ℤ neg_ℤ (p *ℤ b *ℤ h) *ℤ pos q) *ℤ pos (q * (1 * (m * e))) ≡ p *ℤ (pos 1 *ℤ pos (m * e) +ℤ neg_ℤ (b *ℤ h) *ℤ pos 1) *ℤ pos (q * (q * m * e))
step_cross p b h q m e = rw (product_assoc p b h, as_difference p, as_difference (b *ℤ h)) (simp differences (same_difference _ _ _ _ (omega arith)))

step : (f r g : Fraction) → SameValue (f ⊖ f ⊗ r ⊗ g) (f ⊗ (whole (pos 1) ⊖ r ⊗ g))
unfolding ◌⊕◌ ◌⊗◌ opposite whole
step f r g = record { cross = step_cross f.num r.num g.num f.den r.den g.den }

pub nested_series : (t k n : ℕ) → SameValue (alternating t k n) (term t n ⊗ nested t k n)
unfolding alternating nested ◌⊗◌ ◌⊕◌ opposite whole
nested_series t zero n = record { cross = first_cross (term t n).num (term t n).den }
nested_series t (suc k) n =
    same_value_trans (positive_product (term_positive t n) (positive_product (term_positive t (n + 2)) (nested_positive t k (n + 2))))
    (same_value_difference (term t n) (nested_series t k (n + 2)))
    (rw (next_term t n) (step (term t n) (ratio t n) (nested t k (n + 2))))
