-- Division of an integer by a positive whole number, rounded towards minus infinity, and what is left of the integer.
-- Document 01 says floor and modulo. Assumes nothing.
use Rattle.std.specs.Prelude.{ℕ, suc, ◌-◌, ◌%◌, ℤ, pos, negsuc}
use Rattle.std.specs.Int.Signed.{shr_z}

infixl 7 ◌÷◌
infixl 70 ◌modulo◌
-- floor(z / m)
abbrev pub ◌÷◌ : ℤ → ℕ → ℤ
z ÷ m = shr_z z m

-- z less m times floor(z / m): 0 to m - 1, for a negative z too
unfoldable pub ◌modulo◌ : ℤ → ℕ → ℕ
◌modulo◌ (pos n) m = n % m
◌modulo◌ (negsuc n) m = m - suc (n % m)
