-- Sine and cosine by the tables are near the exact ones. Assumes nothing.
use Prim.Native.Nat.{ℕ, ◌+◌, ◌-◌, ◌/◌, ◌%◌, ◌≤◌}
use native.Mathlib.Omega.{arith}
use lib.Dec.{lit<}
use lib.IntN.{ℤ, neg_ℤ}
use Rattle.arithmetic.specs.Fraction.{Fraction, opposite}
use Rattle.arithmetic.specs.Nearness.{Near}
use Rattle.arithmetic.proofs.Nearness.{near_number, near_sum, near_product, near_floor, near_opposite}
use Rattle.sine.specs.Bounds.{sine_limit, sine_error}
use Rattle.sine_series.specs.Tables.{Q}
use Rattle.sine.specs.Sine.{quarter_sine, sine_of, cosine_of}
use Rattle.sine.specs.ExactSine.{exact_quarter_sine, exact_sine_of, exact_cosine_of}
use Rattle.sine_series.proofs.TableTest.{Entry}
use Rattle.sine_series.proofs.TableRule.{s_entry, f_entry, g_entry}
use Rattle.sine.proofs.Quarters.{at_every_angle}

-- an entry is within half a unit
entry_near : {least most : ℕ} {f : Fraction} {x : ℤ} → Entry least most f x → Near Q 50 (most + 50) x f
entry_near e = near_number e.positive (omega (arith, e.half)) (record { bound = e.upper })

quarter_near : (t : ℕ) → t ≤ 900000 → Near Q sine_error sine_limit (quarter_sine t) (exact_quarter_sine t)
unfolding quarter_sine exact_quarter_sine
quarter_near t h =
    near_floor {s = Q} Q (lit< tt)
    (near_sum
    (near_product (entry_near (s_entry (t / 1000) (omega arith))) (entry_near (g_entry (t % 1000) (omega arith))))
    (near_product (entry_near (s_entry (900 - t / 1000) (omega arith))) (entry_near (f_entry (t % 1000) (omega arith)))))

pub sine_near : (angle : ℤ) → Near Q sine_error sine_limit (sine_of angle) (exact_sine_of angle)
unfolding sine_of exact_sine_of
sine_near angle =
    at_every_angle neg_ℤ quarter_sine opposite exact_quarter_sine (Near Q sine_error sine_limit) quarter_near (λ a b. near_opposite) angle

pub cosine_near : (angle : ℤ) → Near Q sine_error sine_limit (cosine_of angle) (exact_cosine_of angle)
unfolding cosine_of exact_cosine_of
cosine_near angle = sine_near _
