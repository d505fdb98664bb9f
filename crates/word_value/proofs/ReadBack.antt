-- A number that is written and then read is the number again. Assumes nothing.
use mathlib.Core.Path.{◌≡◌, refl, sym, ap, ◌∙◌}
use mathlib.Core.Bool.{Bool, true}
use mathlib.Core.List.{List, [], ◌∷◌, ◌++◌}
use Prim.Native.Nat.{ℕ, zero, suc, ◌+◌, ◌*◌, ◌-◌, ◌/◌, ◌%◌, ◌^◌, ◌<◌, ◌≤◌}
use native.Mathlib.Omega.{arith}
use borrow.Author.Tests.{ne_eqb}
use lib.IntN.{ℤ, pos, negsuc, nat_abs}
use lib.ListN.{length}
use Rattle.arithmetic.specs.Places.{all_of}
use Rattle.arithmetic.proofs.Test.{and_true}
use Rattle.std.specs.Prelude.{Some}
use Rattle.text.specs.DecimalText.{digit_of, decimal_with, decimal_of, signed_decimal_of}
use Rattle.word_value.specs.WordValue.{is_digit, value_from, value_of, is_natural, number_or, parsed}
use Rattle.text.proofs.DecimalLaws.{decimal_cases, decimal_most, decimal_length_least, quotient_below, places_enough}
use Rattle.word_value.proofs.WordLaws.{digit_yes, digit_range, natural_is}
use Rattle.word_value.proofs.ParsedCases.{sign_is, plain_word}

-- ---- each byte is a digit

all_append : (test : ℕ → Bool) (xs : List ℕ) (y : ℕ) → all_of test xs ≡ true → test y ≡ true → all_of test (xs ++ y ∷ []) ≡ true
unfolding all_of
all_append test [] y e f = rw f
all_append test (x ∷ xs) y e f =
    let parts = and_true (test x) (all_of test xs) e in
    rw parts.0 (all_append test xs y parts.1 f)

digit_is : (d : ℕ) → d < 10 → is_digit (digit_of d) ≡ true
unfolding digit_of
digit_is d h = digit_yes (48 + d) (omega arith) (omega arith)

pub decimal_digits : (places n : ℕ) → all_of is_digit (decimal_with places n) ≡ true
unfolding decimal_with all_of
decimal_digits zero n = refl
decimal_digits (suc places) n =
    let before = decimal_digits places (n / 10) in
    decimal_cases (λ (l : List ℕ). all_of is_digit l ≡ true) places n (λ h. rw (digit_is n h))
    (λ h. all_append is_digit (decimal_with places (n / 10)) (digit_of (n % 10)) before (digit_is (n % 10) (omega arith)))

-- ---- the value

value_append : (value : ℕ) (xs : List ℕ) (y : ℕ) → value_from value (xs ++ y ∷ []) ≡ value_from value xs * 10 + (y - 48)
unfolding value_from
value_append value [] y = refl
value_append value (x ∷ xs) y = value_append (value * 10 + (x - 48)) xs y

-- where the places suffice
pub decimal_value : (places n : ℕ) → n < 10 ^ suc places → value_of (decimal_with (suc places) n) ≡ n
unfolding value_of value_from digit_of
decimal_value zero n h =
    decimal_cases (λ (l : List ℕ). value_from 0 l ≡ n) 0 n (λ i. omega arith) (λ i. absurd (omega arith))
decimal_value (suc places) n h =
    let before = decimal_value places (n / 10) (quotient_below places n h) in
    decimal_cases (λ (l : List ℕ). value_from 0 l ≡ n) (suc places) n (λ i. omega arith)
    (λ i. value_append 0 (decimal_with (suc places) (n / 10)) (48 + n % 10) ∙ omega (arith, before))

pub value_of_decimal : (n : ℕ) → n < 10 ^ 20 → value_of (decimal_of n) ≡ n
unfolding decimal_of
value_of_decimal n h = decimal_value 19 n h

-- ---- numbers of at most 18 digits

short : (n : ℕ) → n < 10 ^ 18 → length (decimal_of n) ≤ 18
unfolding decimal_of
short n h =
    omega (arith, decimal_most 18 n, ap length (places_enough 17 n h ∙ places_enough 18 n (omega arith)))

digits : (n : ℕ) → all_of is_digit (decimal_of n) ≡ true
unfolding decimal_of
digits n = decimal_digits 20 n

natural : (n : ℕ) → n < 10 ^ 18 → is_natural (decimal_of n) ≡ true
natural n h = sym (natural_is (decimal_of n) true (decimal_length_least n) (short n h) (sym (digits n)))

-- a word of digits begins with no '-'
starts : (w : List ℕ) → 1 ≤ length w → all_of is_digit w ≡ true → parsed w ≡ number_or (is_natural w) (pos (value_of w))
unfolding all_of
starts [] h e = absurd (omega arith)
starts (b ∷ w) h e =
    let range = digit_range b (and_true (is_digit b) (all_of is_digit w) e).0 in
    sym (plain_word (b ∷ w) (sign_is b w ∙ ne_eqb b 45 (λ q. omega (arith, range.0))))

pub read_back : (z : ℤ) → nat_abs z < 10 ^ 18 → parsed (signed_decimal_of z) ≡ Some z
unfolding signed_decimal_of number_or parsed
read_back (pos n) h =
    starts (decimal_of n) (decimal_length_least n) (digits n) ∙ rw (natural n h, value_of_decimal n (omega arith))
read_back (negsuc n) h = rw (natural (suc n) h, value_of_decimal (suc n) (omega arith))
