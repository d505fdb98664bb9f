-- The code's formulas of F and G, for any numbers in them: where a test of all thousand places passes, each place has its entry.
-- Assumes nothing.
use mathlib.Core.Path.{◌≡◌}
use Prim.Native.Nat.{ℕ, ◌+◌, ◌*◌, ◌-◌, ◌/◌, ◌<◌, ◌≤◌}
use native.Mathlib.Nat.{mul-le-mul, mul-le-mul_right, le-pred_of_lt}
use lib.Dec.{T}
use lib.IntN.{pos}
use Rattle.arithmetic.proofs.Table.{all_from}
use Rattle.sine_series.specs.Series.{sine_series, cosine_series}
use Rattle.sine_series.specs.Tables.{Q, F, G}
use Rattle.sine_series.proofs.TableTest.{rounds, rounds_at_each}

-- two terms of the sine series, by their factors, one half and the scale
abbrev pub sine_formula : ℕ → ℕ → ℕ → ℕ → ℕ → ℕ
sine_formula first third half scale b = (first * b - third * b * b * b + half) / scale

-- and of the cosine series
abbrev pub cosine_formula : ℕ → ℕ → ℕ → ℕ → ℕ
cosine_formula second half scale b = Q - (second * b * b + half) / scale

pub f_tested : (first third half scale : ℕ) → T (all_from (λ b. rounds b 1 (pos (sine_formula first third half scale b))) 0 1000) → (b : ℕ) → b < 1000 → pos (sine_formula first third half scale b) ≡ F b
unfolding F sine_series
f_tested first third half scale = rounds_at_each (λ b. b) 1 1000 (sine_formula first third half scale)

pub g_tested : (second half scale : ℕ) → T (all_from (λ b. rounds b 0 (pos (cosine_formula second half scale b))) 0 1000) → (b : ℕ) → b < 1000 → pos (cosine_formula second half scale b) ≡ G b
unfolding G cosine_series
g_tested second half scale = rounds_at_each (λ b. b) 0 1000 (cosine_formula second half scale)

-- ---- how large the steps are

pub square_most : {b : ℕ} → b < 1000 → b * b ≤ 998001
square_most h = mul-le-mul (le-pred_of_lt h) (le-pred_of_lt h)

pub cube_most : {b : ℕ} → b < 1000 → b * b * b ≤ 998001 * b
cube_most {b} h = mul-le-mul_right b (square_most h)
