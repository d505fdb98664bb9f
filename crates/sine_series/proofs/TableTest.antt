-- The test of a table's entry, by the nested series, and what a passed test says of the series itself. Assumes nothing.
use mathlib.Core.Path.{◌≡◌, refl, sym, subst}
use mathlib.Core.Bool.{Bool, false}
use Prim.Native.Nat.{ℕ, ◌*◌, ◌<◌, ◌≤◌}
use lib.Dec.{T, leb, ltb, leb→le, ltb→lt}
use lib.IntN.{ℤ, pos, negsuc, nat_abs}
use Rattle.arithmetic.specs.Fraction.{Fraction, ◌⊕◌, ◌⊗◌, opposite, whole}
use Rattle.arithmetic.specs.Nearness.{gap, error, nearest}
use Rattle.arithmetic.proofs.Nearest.{nearest_only}
use Rattle.arithmetic.proofs.Table.{both, both_left, both_right, all_from, at_each}
use Rattle.arithmetic.proofs.Value.{same_value_half}
use Rattle.sine_series.specs.Series.{arc, arc_unit, factorial, term, alternating, later_terms}
use Rattle.sine_series.specs.Tables.{Q}
use Rattle.sine_series.proofs.NestedSeries.{ratio, nested, nested_series, alternating_positive}

-- the series of the angle t whose first power is n, nested
unfoldable pub quick : ℕ → ℕ → Fraction
quick t n = term t n ⊗ nested t later_terms n

-- x is less than one half from Q times a / d
unfoldable pub half_near : ℤ → ℤ → ℕ → Bool
half_near x a d = ltb (2 * nat_abs (gap Q x a d)) d

-- the code's entry x rounds Q times the series
unfoldable pub rounds : ℕ → ℕ → ℤ → Bool
unfolding half_near quick nested ratio term factorial arc arc_unit gap ◌⊕◌ ◌⊗◌ opposite whole
rounds t n x =
    let f : Fraction = quick t n in
    half_near x f.num f.den

rounds_half : (t n : ℕ) (x : ℤ) → T (rounds t n x) → 2 * nat_abs (error Q x (alternating t later_terms n)) < (alternating t later_terms n).den
unfolding rounds half_near quick
rounds_half t n x p =
    same_value_half Q x (alternating_positive t later_terms n) (nested_series t later_terms n) (ltb→lt _ _ p)

pub rounds_nearest : (t n : ℕ) (x : ℤ) → T (rounds t n x) → nearest Q (alternating t later_terms n) ≡ x
rounds_nearest t n x p = nearest_only Q (alternating t later_terms n) x (rounds_half t n x p)

-- the same of each of the code's entries, whose k-th is for the angle that the first argument gives
pub rounds_at_each : (angle : ℕ → ℕ) (n count : ℕ) (x : ℕ → ℕ) → T (all_from (λ k. rounds (angle k) n (pos (x k))) 0 count) → (k : ℕ) → k < count → pos (x k) ≡ nearest Q (alternating (angle k) later_terms n)
rounds_at_each angle n count x p k h =
    sym (rounds_nearest (angle k) n (pos (x k)) (at_each (λ k. rounds (angle k) n (pos (x k))) count p k h))

-- ---- the definition's entry: its range, and that it rounds

between : ℕ → ℕ → ℤ → Bool
between least most (pos x) = both (leb least x) (leb x most)
between least most (negsuc x) = false

entry_test : ℕ → ℕ → ℤ → ℤ → ℕ → Bool
entry_test least most x a d = both (between least most x) (half_near x a d)

-- what is worked out once is handed on: a function's arguments are computed before it is called
entry_at : ℕ → ℕ → ℤ → ℕ → Bool
entry_at least most a d = entry_test least most (nearest Q (record { num = a; den = d })) a d

unfoldable pub entry : ℕ → ℕ → ℕ → ℕ → Bool
unfolding entry_at entry_test between half_near quick nested ratio term factorial arc arc_unit gap nearest ◌⊕◌ ◌⊗◌ opposite whole
entry least most t n =
    let f : Fraction = quick t n in
    entry_at least most f.num f.den

-- what is known of x, an entry for the fraction f
pub record Entry (least most : ℕ) (f : Fraction) (x : ℤ) : Type 0 where
  pub natural : x ≡ pos (nat_abs x)
  pub lower : least ≤ nat_abs x
  pub upper : nat_abs x ≤ most
  pub positive : 0 < f.den
  pub half : 2 * nat_abs (error Q x f) < f.den

between_natural : (least most : ℕ) (x : ℤ) → T (between least most x) → (x ≡ pos (nat_abs x)) × (least ≤ nat_abs x) × (nat_abs x ≤ most)
unfolding between
between_natural least most (pos x) p = (refl, leb→le least x (both_left (leb least x) (leb x most) p), leb→le x most (both_right (leb least x) (leb x most) p))
between_natural least most (negsuc x) p = absurd p

pub entry_known : (least most t n : ℕ) → T (entry least most t n) → Entry least most (alternating t later_terms n) (nearest Q (alternating t later_terms n))
unfolding entry entry_at entry_test rounds
entry_known least most t n p =
    let x : ℤ = nearest Q (quick t n) in
    let range = between_natural least most x (both_left (between least most x) (rounds t n x) p) in
    let r : T (rounds t n x) = both_right (between least most x) (rounds t n x) p in
    subst (Entry least most (alternating t later_terms n)) (sym (rounds_nearest t n x r)) (record {
      natural = range.0;
      lower = range.1;
      upper = range.2;
      positive = alternating_positive t later_terms n;
      half = rounds_half t n x r;
    })
