-- Cases of the definitions, by computing. Assumes nothing.
use mathlib.Core.Path.{◌≡◌, refl}
use mathlib.Core.List.{[], ◌∷◌}
use lib.IntN.{pos, negsuc}
use lib.ListN.{length}
use Rattle.arithmetic.specs.Places.{all_of}
use Rattle.std.specs.Prelude.{Some, None}
use Rattle.text.specs.DecimalText.{digit_of, decimal_with, decimal_of, signed_decimal_of, line_of}
use Rattle.word_value.specs.WordValue.{is_digit, value_from, value_of, is_natural, number_or, parsed}

-- 0
pub nought : decimal_of 0 ≡ 48 ∷ []
unfolding decimal_of decimal_with digit_of
nought = refl

-- -120, with the 0 behind and none in front
pub minus_120 : signed_decimal_of (negsuc 119) ≡ 45 ∷ 49 ∷ 50 ∷ 48 ∷ []
unfolding signed_decimal_of decimal_of decimal_with digit_of
minus_120 = refl

-- the largest number of 64 bits has 20 digits
pub largest : length (decimal_of 18446744073709551615) ≡ 20
unfolding decimal_of decimal_with digit_of
largest = refl

-- "-0"
pub minus_nought : parsed (45 ∷ 48 ∷ []) ≡ Some (pos 0)
unfolding parsed number_or is_natural all_of is_digit value_of value_from
minus_nought = refl

-- "007"
pub with_noughts : parsed (48 ∷ 48 ∷ 55 ∷ []) ≡ Some (pos 7)
unfolding parsed number_or is_natural all_of is_digit value_of value_from
with_noughts = refl

-- "-" and "1a"
pub sign_alone : parsed (45 ∷ []) ≡ None
unfolding parsed number_or is_natural all_of is_digit
sign_alone = refl

pub letter : parsed (49 ∷ 97 ∷ []) ≡ None
unfolding parsed number_or is_natural all_of is_digit
letter = refl

-- "7 8" and the line end
pub two_words : line_of ((55 ∷ []) ∷ (56 ∷ []) ∷ []) ≡ 55 ∷ 32 ∷ 56 ∷ 10 ∷ []
unfolding line_of
two_words = refl
