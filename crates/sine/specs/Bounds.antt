-- Numbers that the laws of sine and cosine name. Assumes nothing.
use Rattle.std.specs.Prelude.{ℕ}

-- about 1.0018 Q: no sine or cosine, computed or exact, has a larger magnitude
abbrev pub sine_limit : ℕ
sine_limit = 1075614133

-- 0.34 Q, rounded up: no sine from 200,000 to 750,000, the accepted latitudes, is less
abbrev pub least_latitude_sine : ℕ
least_latitude_sine = 365072221

-- hundredths of a unit between a computed sine or cosine and Q times the exact one
abbrev pub sine_error : ℕ
sine_error = 251
