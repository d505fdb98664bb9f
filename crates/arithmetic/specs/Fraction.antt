-- Fractions of whole numbers, not reduced. A denominator is a natural number; the laws ask that it is not 0. Assumes nothing.
use Rattle.std.specs.Prelude.{ℕ, ◌*◌, ℤ, pos, ◌+ℤ◌, ◌*ℤ◌, neg_ℤ, nat_abs}
use Rattle.arithmetic.specs.Floor.{◌÷◌}

pub record Fraction : Type 0 where
  pub num : ℤ
  pub den : ℕ

infixl 6 ◌⊕◌ ◌⊖◌
infixl 7 ◌⊗◌ ◌⊘◌
-- a whole number
unfoldable pub whole : ℤ → Fraction
whole z = record { num = z; den = 1 }

unfoldable pub opposite : Fraction → Fraction
opposite f = record { num = neg_ℤ f.num; den = f.den }

-- sum, difference, product
unfoldable pub ◌⊕◌ : Fraction → Fraction → Fraction
f ⊕ g = record { num = f.num *ℤ pos g.den +ℤ g.num *ℤ pos f.den; den = f.den * g.den }

abbrev pub ◌⊖◌ : Fraction → Fraction → Fraction
f ⊖ g = f ⊕ opposite g

unfoldable pub ◌⊗◌ : Fraction → Fraction → Fraction
f ⊗ g = record { num = f.num *ℤ g.num; den = f.den * g.den }

-- quotient by a positive fraction
unfoldable pub ◌⊘◌ : Fraction → Fraction → Fraction
f ⊘ g = record { num = f.num *ℤ pos g.den; den = f.den * nat_abs g.num }

-- floor(num / den): the greatest whole number that is not above the fraction
unfoldable pub floor : Fraction → ℤ
floor f = f.num ÷ f.den
