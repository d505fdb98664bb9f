-- How near the series come to a sine of 1 and a cosine of 0 at a right angle, the largest angle of the tables. With one term
-- fewer neither bound would hold. Assumes nothing.
use Prim.Native.Nat.{◌*◌, ◌^◌, ◌≤◌}
use lib.Dec.{lit≤}
use lib.IntN.{pos, nat_abs, ◌-ℤ◌}
use Rattle.arithmetic.specs.Fraction.{◌⊕◌, opposite}
use Rattle.sine_series.specs.Series.{arc, arc_unit, factorial, term, alternating, sine_series, cosine_series}

-- within 2 / 10^18 of 1
pub right_angle_sine : nat_abs ((sine_series 900000).num -ℤ pos (sine_series 900000).den) * 10 ^ 18 ≤ 2 * (sine_series 900000).den
unfolding sine_series alternating term factorial arc arc_unit ◌⊕◌ opposite
right_angle_sine = lit≤ tt

-- within 2 / 10^17 of 0
pub right_angle_cosine : nat_abs (cosine_series 900000).num * 10 ^ 17 ≤ 2 * (cosine_series 900000).den
unfolding cosine_series alternating term factorial arc arc_unit ◌⊕◌ opposite
right_angle_cosine = lit≤ tt
