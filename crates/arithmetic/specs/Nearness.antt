-- How near a whole number is to a multiple of a fraction. Assumes nothing.
use Rattle.std.specs.Prelude.{◌≢◌, ℕ, ◌*◌, ◌≤◌, ◌<◌, ℤ, pos, ◌+ℤ◌, ◌-ℤ◌, ◌*ℤ◌, nat_abs}
use Rattle.arithmetic.specs.Floor.{◌÷◌}
use Rattle.arithmetic.specs.Fraction.{Fraction}

-- x less s times n / d, all times d
unfoldable pub gap : ℕ → ℤ → ℤ → ℕ → ℤ
gap s x n d = x *ℤ pos d -ℤ pos s *ℤ n

-- x less s times the fraction f, in parts of f's denominator
abbrev pub error : ℕ → ℤ → Fraction → ℤ
error s x f = gap s x f.num f.den

-- x is within so many hundredths of s times f, and s times f is from -limit to limit
pub record Near (s hundredths limit : ℕ) (x : ℤ) (f : Fraction) : Type 0 where
  pub positive : 0 < f.den
  pub close : nat_abs (error s x f) * 100 ≤ hundredths * f.den
  pub size : s * nat_abs f.num ≤ limit * f.den

-- x less the fraction f is from -bound to bound; f is a fraction: its denominator is not 0
pub record Within (bound : ℕ) (x : ℤ) (f : Fraction) : Type 0 where
  pub positive : 0 < f.den
  pub close : nat_abs (x *ℤ pos f.den -ℤ f.num) ≤ bound * f.den

-- x is the nearest whole number to s times f: no other whole number is as near
pub record Nearest (s : ℕ) (f : Fraction) (x : ℤ) : Type 0 where
  pub positive : 0 < f.den
  pub nearer : (y : ℤ) → y ≢ x → nat_abs (error s x f) < nat_abs (error s y f)

-- floor(s f + 1/2), which is that number wherever there is one
unfoldable pub nearest : ℕ → Fraction → ℤ
nearest s f = (pos (2 * s) *ℤ f.num +ℤ pos f.den) ÷ (2 * f.den)
