-- Document 01, "Sine of any angle", in whole numbers: sine and cosine times Q. Assumes nothing.
use Rattle.std.specs.Prelude.{ℕ, ◌-◌, ◌/◌, ◌%◌, ℤ, pos, neg_ℤ, ◌+ℤ◌, ◌*ℤ◌}
use Rattle.arithmetic.specs.Floor.{◌÷◌}
use Rattle.sine_series.specs.Tables.{Q, S, F, G}
use Rattle.sine.specs.Quarters.{by_quarters}

-- for t from 0 to 900,000: floor((S[a] x G[b] + S[900 - a] x F[b]) / Q), with a = t div 1,000 and b = t mod 1,000
unfoldable pub quarter_sine : ℕ → ℤ
quarter_sine t =
    let a : ℕ = t / 1000 in
    let b : ℕ = t % 1000 in
    (S a *ℤ G b +ℤ S (900 - a) *ℤ F b) ÷ Q

unfoldable pub sine_of : ℤ → ℤ
sine_of angle = by_quarters neg_ℤ quarter_sine angle

-- the sine of the angle plus 900,000
unfoldable pub cosine_of : ℤ → ℤ
cosine_of angle = sine_of (angle +ℤ pos 900000)
