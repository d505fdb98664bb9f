-- Bounds of the computed sine. Assumes nothing.
use mathlib.Core.Path.{◌≡◌}
use borrow.Author.Tests.{le-leb}
use Prim.Native.Nat.{ℕ, ◌+◌, ◌-◌, ◌*◌, ◌/◌, ◌%◌, ◌<◌, ◌≤◌}
use native.Mathlib.Nat.{mul-le-mul, div-le_of_le-mul}
use native.Mathlib.Omega.{arith}
use lib.IntN.{ℤ, pos, neg_ℤ, nat_abs}
use lib.Signed.{◌≤ℤ◌}
use Rattle.arithmetic.specs.Magnitude.{Magnitude}
use Rattle.arithmetic.proofs.Magnitude.{magnitude_negation}
use Rattle.arithmetic.proofs.Order.{pos_≤ℤ}
use Rattle.sine.specs.Bounds.{sine_limit, least_latitude_sine}
use Rattle.sine_series.specs.Tables.{Q, S, F, G}
use Rattle.sine.specs.Sine.{quarter_sine, sine_of, cosine_of}
use Rattle.sine.proofs.Quarters.{at_every_angle, in_first_quarter}
use Rattle.sine_series.proofs.TableRule.{least_of_s, s_entry, f_entry, g_entry}

-- the sum of the two products before the floor, as a natural number
unfoldable pub quarter_sum : ℕ → ℕ
quarter_sum t =
    let a : ℕ = t / 1000 in
    let b : ℕ = t % 1000 in
    nat_abs (S a) * nat_abs (G b) + nat_abs (S (900 - a)) * nat_abs (F b)

-- from the entries as the code reads them
pub quarter_sum_read : (t x g y f : ℕ) → pos x ≡ S (t / 1000) → pos g ≡ G (t % 1000) → pos y ≡ S (900 - t / 1000) → pos f ≡ F (t % 1000) → x * g + y * f ≡ quarter_sum t
unfolding quarter_sum
quarter_sum_read t x g y f a b c d = rw (← a, ← b, ← c, ← d)

pub quarter_natural : (t : ℕ) → t ≤ 900000 → quarter_sine t ≡ pos (quarter_sum t / Q)
unfolding quarter_sine quarter_sum
quarter_natural t h =
    rw (
      (s_entry (t / 1000) (omega arith)).natural,
      (g_entry (t % 1000) (omega arith)).natural,
      (s_entry (900 - t / 1000) (omega arith)).natural,
      (f_entry (t % 1000) (omega arith)).natural,
    )

pub quarter_sum_most : (t : ℕ) → t ≤ 900000 → quarter_sum t ≤ sine_limit * Q
unfolding quarter_sum
quarter_sum_most t h =
    omega (
      arith,
      mul-le-mul (s_entry (t / 1000) (omega arith)).upper (g_entry (t % 1000) (omega arith)).upper,
      mul-le-mul (s_entry (900 - t / 1000) (omega arith)).upper (f_entry (t % 1000) (omega arith)).upper,
    )

-- the entries of 20 degrees and more
s_from_20 : (a : ℕ) → 200 ≤ a → a < 901 → 367241333 ≤ nat_abs (S a)
unfolding least_of_s
s_from_20 a l h = rw (le-leb 200 a l) at (s_entry a h).lower

quarter_sum_least : (t : ℕ) → 200000 ≤ t → t ≤ 900000 → least_latitude_sine * Q ≤ quarter_sum t
unfolding quarter_sum
quarter_sum_least t l h =
    omega (arith, mul-le-mul (s_from_20 (t / 1000) (omega arith) (omega arith)) (g_entry (t % 1000) (omega arith)).lower)

-- ---- the laws

pub quarter_magnitude : (t : ℕ) → t ≤ 900000 → Magnitude (quarter_sine t) sine_limit
quarter_magnitude t h = rw (quarter_natural t h) (record { bound = div-le_of_le-mul Q (omega (arith, quarter_sum_most t h)) })

pub sine_magnitude : (angle : ℤ) → Magnitude (sine_of angle) sine_limit
unfolding sine_of
sine_magnitude angle =
    at_every_angle neg_ℤ quarter_sine neg_ℤ quarter_sine (λ a b. Magnitude a sine_limit) quarter_magnitude (λ a b. magnitude_negation) angle

pub cosine_magnitude : (angle : ℤ) → Magnitude (cosine_of angle) sine_limit
unfolding cosine_of
cosine_magnitude angle = sine_magnitude _

-- document 01's first sentence: from 0 to 900,000 the sum of two products, rounded down
pub sine_first_quarter : (t : ℕ) → t ≤ 900000 → sine_of (pos t) ≡ quarter_sine t
unfolding sine_of
sine_first_quarter t h = in_first_quarter neg_ℤ quarter_sine t h

pub sine_not_negative : (t : ℕ) → t ≤ 900000 → pos 0 ≤ℤ sine_of (pos t)
sine_not_negative t h = rw (sine_first_quarter t h, quarter_natural t h) (pos_≤ℤ (omega arith))

pub sine_of_latitude : (t : ℕ) → 200000 ≤ t → t ≤ 750000 → pos least_latitude_sine ≤ℤ sine_of (pos t)
sine_of_latitude t l h =
    rw (sine_first_quarter t (omega arith), quarter_natural t (omega arith)) (pos_≤ℤ (omega (arith, quarter_sum_least t l (omega arith))))
