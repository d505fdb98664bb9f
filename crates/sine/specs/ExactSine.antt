-- Document 01, "Exact reference": sine and cosine with no floor and Q read as 1. Table entries are replaced by the series
-- themselves, with the addition rule and the mirrored cosine. Assumes nothing.
use Rattle.std.specs.Prelude.{ℕ, ◌-◌, ◌*◌, ◌/◌, ◌%◌, ℤ, pos, ◌+ℤ◌}
use Rattle.arithmetic.specs.Fraction.{Fraction, ◌⊕◌, ◌⊗◌, opposite}
use Rattle.sine_series.specs.Series.{sine_series, cosine_series}
use Rattle.sine.specs.Quarters.{by_quarters}

unfoldable pub exact_quarter_sine : ℕ → Fraction
exact_quarter_sine t =
    let a : ℕ = t / 1000 in
    let b : ℕ = t % 1000 in
    sine_series (a * 1000) ⊗ cosine_series b ⊕ sine_series ((900 - a) * 1000) ⊗ sine_series b

unfoldable pub exact_sine_of : ℤ → Fraction
exact_sine_of angle = by_quarters opposite exact_quarter_sine angle

unfoldable pub exact_cosine_of : ℤ → Fraction
exact_cosine_of angle = exact_sine_of (angle +ℤ pos 900000)
