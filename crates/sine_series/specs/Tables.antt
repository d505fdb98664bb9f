-- Document 01, "Sine tables": each entry is the nearest whole number to Q times the series. Assumes nothing.
use Rattle.std.specs.Prelude.{List, ◌≡◌, ℕ, ◌*◌, ◌^◌, ◌<◌, ℤ, pos, get_or}
use Rattle.arithmetic.specs.Nearness.{nearest}
use Rattle.sine_series.specs.Series.{sine_series, cosine_series}

-- 1,073,741,824
abbrev pub Q : ℕ
Q = 2 ^ 30

-- the sine of a tenths of a degree, 0 to 900
unfoldable pub S : ℕ → ℤ
S a = nearest Q (sine_series (a * 1000))

-- the sine and the cosine of b angle units, 0 to 999
unfoldable pub F : ℕ → ℤ
F b = nearest Q (sine_series b)

unfoldable pub G : ℕ → ℤ
G b = nearest Q (cosine_series b)

-- the first n numbers of xs are the table's
pub record Tabulates (table : ℕ → ℤ) (n : ℕ) (xs : List ℕ) : Type 0 where
  pub at : (k : ℕ) → k < n → pos (get_or xs k 0) ≡ table k
