-- Document 01, "Sine tables": the sine series through the 21st power and the cosine series through the 20th, with
-- pi = 3.14159265358979323846. An angle t is a number of ten-thousandths of a degree. Assumes nothing.
use Rattle.std.specs.Prelude.{ℕ, zero, suc, ◌+◌, ◌*◌, ◌^◌, pos}
use Rattle.arithmetic.specs.Fraction.{Fraction, ◌⊖◌}

-- t in radians, t x pi / 1,800,000, is arc t / arc_unit
unfoldable pub arc : ℕ → ℕ
arc t = t * 314159265358979323846

unfoldable pub arc_unit : ℕ
arc_unit = 1800000 * 10 ^ 20

unfoldable pub factorial : ℕ → ℕ
factorial zero = 1
factorial (suc n) = suc n * factorial n

-- x^n / n!, where x is t in radians
unfoldable pub term : ℕ → ℕ → Fraction
term t n = record { num = pos (arc t ^ n); den = arc_unit ^ n * factorial n }

-- the terms of the powers n, n + 2, .., k of them after the first, with alternating signs
unfoldable pub alternating : ℕ → ℕ → ℕ → Fraction
alternating t zero n = term t n
alternating t (suc k) n = term t n ⊖ alternating t k (n + 2)

-- the terms of each series after its first
abbrev pub later_terms : ℕ
later_terms = 10

-- x - x^3/3! + .. + x^21/21!
unfoldable pub sine_series : ℕ → Fraction
sine_series t = alternating t later_terms 1

-- 1 - x^2/2! + .. + x^20/20!
unfoldable pub cosine_series : ℕ → Fraction
cosine_series t = alternating t later_terms 0
