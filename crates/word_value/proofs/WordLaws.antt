-- Words read digit by digit. Assumes nothing.
use mathlib.Core.Path.{◌≡◌, refl, sym}
use mathlib.Core.Bool.{Bool, true, false, ◌&&◌}
use mathlib.Core.List.{List, [], ◌∷◌}
use Prim.Native.Nat.{ℕ, suc, ◌+◌, ◌*◌, ◌-◌, ◌^◌, ◌<◌, ◌≤◌}
use native.Mathlib.Nat.{pow-le-pow_right, pow-suc}
use native.Mathlib.Numerals.{add-one}
use native.Mathlib.Omega.{arith}
use borrow.Author.Tests.{leb-true, le-leb}
use lib.Dec.{leb}
use lib.ListN.{length, get_or, drop, drop_of_length-le}
use lib.Seq.{drop-cons}
use Rattle.arithmetic.specs.Places.{all_of}
use Rattle.arithmetic.proofs.Test.{and_true}
use Rattle.std.specs.Char.{is_ascii_digit}
use Rattle.std.specs.List.{list_all}
use Rattle.word_value.specs.WordValue.{is_digit, value_from, is_natural}

-- ---- one byte

pub digit_yes : (b : ℕ) → 48 ≤ b → b ≤ 57 → is_digit b ≡ true
unfolding is_digit
digit_yes b h i = rw (le-leb 48 b h, le-leb b 57 i)

pub digit_range : (b : ℕ) → is_digit b ≡ true → (48 ≤ b) × (b ≤ 57)
unfolding is_digit
digit_range b e =
    let parts = and_true (leb 48 b) (leb b 57) e in
    (leb-true 48 b parts.0, leb-true b 57 parts.1)

-- the library's test passes at the same bytes
pub same_digits : (w : List ℕ) → list_all is_ascii_digit w ≡ all_of is_digit w
unfolding all_of is_digit
same_digits [] = refl
same_digits (b ∷ w) = rw (same_digits w)

-- ---- 1 to 18 digits

pub natural_is : (w : List ℕ) (b : Bool) → 1 ≤ length w → length w ≤ 18 → b ≡ all_of is_digit w → b ≡ is_natural w
unfolding is_natural
natural_is w b h i e = rw (le-leb 1 (length w) h, le-leb (length w) 18 i, ← e) (sym (and_yes b))
  where
    and_yes : (a : Bool) → (a && true && true) ≡ a
    and_yes true = refl
    and_yes false = refl

pub natural_parts : (w : List ℕ) → is_natural w ≡ true → (all_of is_digit w ≡ true) × (1 ≤ length w) × (length w ≤ 18)
unfolding is_natural
natural_parts w e =
    let long = and_true (all_of is_digit w && leb 1 (length w)) (leb (length w) 18) e in
    let short = and_true (all_of is_digit w) (leb 1 (length w)) long.0 in
    (short.0, leb-true 1 (length w) short.1, leb-true (length w) 18 long.1)

-- ---- the value: after k digits it is below 10 ^ k

pub digit_next : (w : List ℕ) (k : ℕ) → k < length w → all_of is_digit (drop k w) ≡ true → (is_digit (get_or w k 0) ≡ true) × (all_of is_digit (drop (k + 1) w) ≡ true)
unfolding all_of
digit_next w k h e =
    rw (add-one k) (and_true (is_digit (get_or w k 0)) (all_of is_digit (drop (suc k) w)) (rw (drop-cons w k 0 h) at e))

pub value_next : (w : List ℕ) (k value : ℕ) → k < length w → value_from value (drop k w) ≡ value_from (value * 10 + (get_or w k 0 - 48)) (drop (k + 1) w)
unfolding value_from
value_next w k value h = rw (drop-cons w k 0 h, add-one k)

pub value_end : (w : List ℕ) (k value : ℕ) → length w ≤ k → value_from value (drop k w) ≡ value
unfolding value_from
value_end w k value h = rw (drop_of_length-le w h)

pub power_below : (k j : ℕ) → k ≤ j → 10 ^ k ≤ 10 ^ j
power_below k j h = pow-le-pow_right (omega arith) h

pub value_below : (value k d : ℕ) → value < 10 ^ k → d ≤ 9 → value * 10 + d < 10 ^ (k + 1)
value_below value k d h i = rw (add-one k, pow-suc 10 k) (omega arith)
