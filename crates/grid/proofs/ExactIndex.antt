-- Document 02, T-10: the column or row of a coordinate beside that of an exact one, which lies within the tolerance. Assumes nothing.
use mathlib.Core.Path.{◌≡◌, ap, ap₂, ◌∙◌}
use mathlib.Core.Bool.{false}
use Prim.Native.Nat.{ℕ, zero, suc, ◌+◌, ◌*◌, ◌/◌, ◌<◌, ◌≤◌}
use native.Mathlib.Nat.{mul-le-mul_right, div-lt_iff_lt-mul, div-eq_of_lt-le}
use native.Mathlib.Omega.{arith}
use borrow.Author.Tests.{ltb-false, leb-false}
use lib.IntN.{ℤ, pos, ◌+ℤ◌, ◌-ℤ◌, ◌*ℤ◌, neg_ℤ, nat_abs}
use Rattle.arithmetic.specs.Floor.{◌÷◌}
use Rattle.arithmetic.specs.Fraction.{Fraction, whole, opposite, floor, ◌⊕◌, ◌⊘◌}
use Rattle.arithmetic.specs.Nearness.{Within}
use Rattle.arithmetic.proofs.Floor.{modulo_below, floor_modulo, floor_of_sum}
use Rattle.arithmetic.proofs.Integer.{as_difference, same_difference, differences}
use Rattle.arithmetic.proofs.Magnitude.{nat_abs_difference, nat_abs_rest, natural_difference}
use Rattle.arithmetic.proofs.Test.{or_false}
use Rattle.grid.specs.Mark.{tolerance, past_line, near_line}
use Rattle.grid.specs.Window.{index_of, index_of*}

-- ---- identities

numerator : (n corner : ℤ) (d : ℕ) → (n *ℤ pos 1 +ℤ neg_ℤ corner *ℤ pos d) *ℤ pos 1 ≡ n -ℤ corner *ℤ pos d
numerator n corner d = rw (as_difference n, as_difference corner) (simp differences (same_difference _ _ _ _ (omega arith)))

-- x lies past a line by so much; the exact n / d less the corner, in parts of d, counted from the line one side before that
from_side_before : (x n corner index : ℤ) (side d past : ℕ) → x -ℤ corner ≡ index *ℤ pos side +ℤ pos past → n -ℤ corner *ℤ pos d ≡ (index -ℤ pos 1) *ℤ pos (d * side) +ℤ (pos (past * d + d * side) -ℤ (x *ℤ pos d -ℤ n))
from_side_before x n corner index side d past e = left ∙ ap (λ (z : ℤ). z *ℤ pos d -ℤ (x *ℤ pos d -ℤ n)) e ∙ right
  where
    left : n -ℤ corner *ℤ pos d ≡ (x -ℤ corner) *ℤ pos d -ℤ (x *ℤ pos d -ℤ n)
    left = rw (as_difference n, as_difference x, as_difference corner) (simp differences (same_difference _ _ _ _ (omega arith)))

    right : (index *ℤ pos side +ℤ pos past) *ℤ pos d -ℤ (x *ℤ pos d -ℤ n) ≡ (index -ℤ pos 1) *ℤ pos (d * side) +ℤ (pos (past * d + d * side) -ℤ (x *ℤ pos d -ℤ n))
    right = rw (as_difference n, as_difference x, as_difference index) (simp differences (same_difference _ _ _ _ (omega arith)))

denominator : (d side : ℕ) → d * 1 * side ≡ d * side
denominator d side = omega arith

off_by : (z w : ℤ) → z -ℤ (z -ℤ pos 1 +ℤ w) ≡ pos 1 -ℤ w
off_by z w = rw (as_difference z, as_difference w) (simp differences (same_difference _ _ _ _ (omega arith)))

off_most_one : (n : ℕ) → n < 3 → nat_abs (pos 1 -ℤ pos n) ≤ 1
off_most_one zero h = omega arith
off_most_one (suc zero) h = omega arith
off_most_one (suc (suc zero)) h = omega arith
off_most_one (suc (suc (suc n))) h = absurd (omega arith)

one_on : (z : ℤ) → z -ℤ pos 1 +ℤ pos 1 ≡ z
one_on z = rw (as_difference z) (simp differences (same_difference _ _ _ _ (omega arith)))

-- ---- the index

module _ (corner : ℤ) (side : ℕ) (x : ℤ) (f : Fraction) (least : 10000 ≤ side) (near : Within tolerance x f) where
  -- in parts of the exact one's denominator: a side, the error, and (steps) how far the exact coordinate lies past the line before x's own line
  abbrev parts : ℕ
  parts = f.den * side

  abbrev off : ℤ
  off = x *ℤ pos f.den -ℤ f.num

  abbrev past : ℕ
  past = past_line corner side x

  abbrev steps : ℕ
  steps = nat_abs (pos (past * f.den + parts) -ℤ off)

  positive_parts : 0 < parts
  positive_parts = omega (arith, near.positive, mul-le-mul_right f.den least)

  off_most : nat_abs off < parts
  off_most = omega (arith, near.close, near.positive, mul-le-mul_right f.den least)

  steps_are : pos (past * f.den + parts) -ℤ off ≡ pos steps
  steps_are = natural_difference (past * f.den + parts) off (omega (arith, off_most))

  -- the exact index, counted from the line before
  exact_index : index_of* corner side f ≡ index_of corner side x -ℤ pos 1 +ℤ pos (steps / parts)
  unfolding index_of* index_of past_line floor whole opposite ◌⊕◌ ◌⊘◌
  exact_index =
      let index = (x -ℤ corner) ÷ side in
      let exact = numerator f.num corner f.den ∙ from_side_before x f.num corner index side f.den past (floor_modulo (x -ℤ corner) side (omega arith)) in
      ap₂ (λ (z : ℤ) (n : ℕ). z ÷ n) (exact ∙ ap (λ (z : ℤ). (index -ℤ pos 1) *ℤ pos parts +ℤ z) steps_are) (denominator f.den side)
      ∙ floor_of_sum (index -ℤ pos 1) parts steps positive_parts

  past_most : past * f.den + f.den ≤ parts
  unfolding past_line
  past_most = omega (arith, mul-le-mul_right f.den (modulo_below (x -ℤ corner) side (omega arith)))

  steps_most : steps ≤ past * f.den + parts + nat_abs off
  steps_most = nat_abs_difference (pos (past * f.den + parts)) off

  steps_least : past * f.den + parts ≤ steps + nat_abs off
  steps_least = nat_abs_rest (pos (past * f.den + parts)) off

  -- it differs from the coordinate's own by no more than one
  pub index_beside : nat_abs (index_of corner side x -ℤ index_of* corner side f) ≤ 1
  index_beside = rw (exact_index, off_by (index_of corner side x) (pos (steps / parts))) (off_most_one (steps / parts) below_three)
    where
      below_three : steps / parts < 3
      below_three = (div-lt_iff_lt-mul positive_parts).1 (omega (arith, steps_most, past_most, off_most, near.positive))

  -- and where the coordinate is not near a line it is the very same
  pub index_same : near_line corner side x ≡ false → index_of* corner side f ≡ index_of corner side x
  unfolding near_line
  index_same unmarked =
      let tests = or_false _ _ unmarked in
      let first = mul-le-mul_right f.den (ltb-false past _ tests.0) in
      let last = leb-false _ past tests.1 in
      let before_last = mul-le-mul_right {m = past + tolerance + 1} {n = side} f.den (omega arith) in
      let one : steps / parts ≡ 1 = div-eq_of_lt-le {k = 1} parts (omega (arith, steps_least, near.close)) (omega (arith, steps_most, near.close, near.positive)) in
      exact_index ∙ rw one (one_on (index_of corner side x))
