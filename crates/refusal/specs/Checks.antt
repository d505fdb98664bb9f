-- Limits of a number, and checks in order: document 01, "Refusal numbers". Assumes nothing.
use Rattle.std.specs.Prelude.{Bool, ◌&&◌, cond, List, [], ◌∷◌, ℕ, zero, suc, leb, ℤ}
use Rattle.std.specs.Int.Signed.{le_z}

-- the third number is from the first to the second
unfoldable pub in_range : ℕ → ℕ → ℕ → Bool
in_range least most x = leb least x && leb x most

unfoldable pub in_signed_range : ℤ → ℤ → ℤ → Bool
in_signed_range least most x = le_z least x && le_z x most

-- ---- which number is given

-- a refusal number, given unless the test passes
infix 20 ◌unless◌
pub data Check : Type 0 where
  ◌unless◌ : ℕ → Bool → Check

-- the number of the first check whose test fails, or 0
unfoldable pub first_refusal : List Check → ℕ
first_refusal [] = 0
first_refusal ((number unless passes) ∷ checks) = cond passes (first_refusal checks) number

-- the first refusal, or the second where there is none
infixl 15 ◌then◌
unfoldable pub ◌then◌ : ℕ → ℕ → ℕ
zero then second = second
suc number then second = suc number
