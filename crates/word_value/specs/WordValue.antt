-- A whole number given as a word: '-' or nothing, then 1 to 18 digits. Assumes nothing.
use Rattle.std.specs.Prelude.{Bool, ◌&&◌, cond, Option, Some, None, List, [], ◌∷◌, ℕ, ◌+◌, ◌-◌, ◌*◌, leb, eqb, ℤ, pos, neg_ℤ, length}
use Rattle.arithmetic.specs.Places.{all_of}

unfoldable pub is_digit : ℕ → Bool
is_digit b = leb 48 b && leb b 57

-- the value of digits that follow those of value acc
unfoldable pub value_from : ℕ → List ℕ → ℕ
value_from acc [] = acc
value_from acc (b ∷ bs) = value_from (acc * 10 + (b - 48)) bs

unfoldable pub value_of : List ℕ → ℕ
value_of w = value_from 0 w

-- 18 digits fit 64 bits with a sign
unfoldable pub is_natural : List ℕ → Bool
is_natural w = all_of is_digit w && leb 1 (length w) && leb (length w) 18

unfoldable pub number_or : Bool → ℤ → Option ℤ
number_or good z = cond good (Some z) None

-- None where the word is no number; "-0" is 0
unfoldable pub parsed : List ℕ → Option ℤ
parsed [] = None
parsed (b ∷ w) =
    cond (eqb b 45) (number_or (is_natural w) (neg_ℤ (pos (value_of w)))) (number_or (is_natural (b ∷ w)) (pos (value_of (b ∷ w))))
