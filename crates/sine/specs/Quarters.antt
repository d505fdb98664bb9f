-- Document 01, "Sine of any angle": how the sine of any angle comes from those of 0 to 900,000. The computed sine and the exact
-- one are taken apart alike. Assumes nothing.
use Rattle.std.specs.Prelude.{ℕ, zero, suc, ◌-◌, ◌/◌, ◌%◌, ℤ}
use Rattle.arithmetic.specs.Floor.{◌modulo◌}

module _ {A : Type 0} (minus : A → A) (first : ℕ → A) where
  -- the four quarters in order: the sine of t, the sine of 900,000 - t, minus the first, minus the second
  unfoldable pub in_quarter : ℕ → ℕ → A
  in_quarter zero t = first t
  in_quarter (suc zero) t = first (900000 - t)
  in_quarter (suc (suc zero)) t = minus (first t)
  in_quarter (suc (suc (suc q))) t = minus (first (900000 - t))

  -- an angle of less than a whole turn
  unfoldable pub in_turn : ℕ → A
  in_turn m = in_quarter (m / 900000) (m % 900000)

  -- any angle is first taken modulo 3,600,000
  unfoldable pub by_quarters : ℤ → A
  by_quarters angle = in_turn (angle modulo 3600000)
