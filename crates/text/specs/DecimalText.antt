-- Whole numbers as decimal text, in the bytes of ASCII. Assumes nothing.
use Rattle.std.specs.Prelude.{cond, List, [], ◌∷◌, ◌++◌, ℕ, zero, suc, ◌+◌, ◌/◌, ◌%◌, ltb, ℤ, pos, negsuc}

unfoldable pub digit_of : ℕ → ℕ
digit_of d = 48 + d

-- the last digits of a number, at most as many as there are places, with no 0 in front
unfoldable pub decimal_with : ℕ → ℕ → List ℕ
decimal_with zero n = []
decimal_with (suc places) n = cond (ltb n 10) (digit_of n ∷ []) (decimal_with places (n / 10) ++ digit_of (n % 10) ∷ [])

-- 20 digits hold every number of 64 bits
unfoldable pub decimal_of : ℕ → List ℕ
decimal_of n = decimal_with 20 n

-- a negative number has '-' in front
unfoldable pub signed_decimal_of : ℤ → List ℕ
signed_decimal_of (pos n) = decimal_of n
signed_decimal_of (negsuc n) = 45 ∷ decimal_of (suc n)

-- words with one space between, and a line end behind the last
unfoldable pub line_of : List (List ℕ) → List ℕ
line_of [] = 10 ∷ []
line_of (word ∷ []) = word ++ 10 ∷ []
line_of (word ∷ next ∷ words) = word ++ 32 ∷ line_of (next ∷ words)

-- words with a space behind each
unfoldable pub spaced : List (List ℕ) → List ℕ
spaced [] = []
spaced (word ∷ words) = word ++ 32 ∷ spaced words
