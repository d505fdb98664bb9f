-- Decimal text: its digits one by one, its length, and the places that suffice. Assumes nothing.
use mathlib.Core.Path.{◌≡◌, refl, sym, ap, ◌∙◌}
use mathlib.Core.Bool.{Bool, true, false, cond}
use mathlib.Core.List.{List, [], ◌∷◌, ◌++◌}
use Prim.Native.Nat.{ℕ, zero, suc, ◌+◌, ◌-◌, ◌/◌, ◌%◌, ◌^◌, ◌<◌, ◌≤◌}
use native.Mathlib.Nat.{pow-suc}
use native.Mathlib.Omega.{arith}
use borrow.Author.Tests.{ltb-true, ltb-false, lt-ltb, le-ltb}
use lib.Dec.{ltb}
use lib.ListN.{length, length-append}
use Rattle.text.specs.DecimalText.{digit_of, decimal_with, decimal_of}

-- ---- digit by digit

pub decimal_one : (places n : ℕ) → 0 < places → n < 10 → decimal_with places n ≡ digit_of n ∷ []
unfolding decimal_with
decimal_one zero n p h = absurd (omega arith)
decimal_one (suc places) n p h = rw (lt-ltb n 10 h)

less_one : (k : ℕ) → k ≡ suc k - 1
less_one k = omega arith

pub decimal_more : (places n : ℕ) → 0 < places → 10 ≤ n → decimal_with places n ≡ decimal_with (places - 1) (n / 10) ++ digit_of (n % 10) ∷ []
unfolding decimal_with
decimal_more zero n p h = absurd (omega arith)
decimal_more (suc places) n p h =
    rw (le-ltb n 10 h) (ap (λ (k : ℕ). decimal_with k (n / 10) ++ digit_of (n % 10) ∷ []) (less_one places))

-- what holds of one digit, and of the digits before the last with the last
pub decimal_cases : (P : List ℕ → Type 0) (places n : ℕ) → (n < 10 → P (digit_of n ∷ [])) → (10 ≤ n → P (decimal_with places (n / 10) ++ digit_of (n % 10) ∷ [])) → P (decimal_with (suc places) n)
unfolding decimal_with
decimal_cases P places n f g = go (ltb n 10) (λ e. f (ltb-true n 10 e)) (λ e. g (ltb-false n 10 e))
  where
    go : (b : Bool) → (b ≡ true → P (digit_of n ∷ [])) → (b ≡ false → P (decimal_with places (n / 10) ++ digit_of (n % 10) ∷ [])) → P (cond b (digit_of n ∷ []) (decimal_with places (n / 10) ++ digit_of (n % 10) ∷ []))
    go true x y = x refl
    go false x y = y refl

-- ---- the length

pub length_more : (xs : List ℕ) (y : ℕ) → length (xs ++ y ∷ []) ≡ length xs + 1
length_more xs y = length-append xs (y ∷ [])

pub decimal_most : (places n : ℕ) → length (decimal_with places n) ≤ places
unfolding decimal_with
decimal_most zero n = omega arith
decimal_most (suc places) n =
    let before = decimal_most places (n / 10) in
    decimal_cases (λ (l : List ℕ). length l ≤ suc places) places n (λ h. omega arith)
    (λ h. omega (arith, length_more (decimal_with places (n / 10)) (digit_of (n % 10))))

pub decimal_least : (places n : ℕ) → 1 ≤ length (decimal_with (suc places) n)
decimal_least places n =
    decimal_cases (λ (l : List ℕ). 1 ≤ length l) places n (λ h. omega arith)
    (λ h. omega (arith, length_more (decimal_with places (n / 10)) (digit_of (n % 10))))

pub decimal_length_most : (n : ℕ) → length (decimal_of n) ≤ 20
unfolding decimal_of
decimal_length_most n = decimal_most 20 n

pub decimal_length_least : (n : ℕ) → 1 ≤ length (decimal_of n)
unfolding decimal_of
decimal_length_least n = decimal_least 19 n

-- ---- places enough: a number below 10 ^ places has all its digits, so more places change nothing

pub quotient_below : (places n : ℕ) → n < 10 ^ suc (suc places) → n / 10 < 10 ^ suc places
quotient_below places n h = omega (arith, pow-suc 10 (suc places))

pub places_enough : (places n : ℕ) → n < 10 ^ suc places → decimal_with (suc places) n ≡ decimal_with (suc (suc places)) n
unfolding decimal_with
places_enough zero n h = decimal_one 1 n (omega arith) (omega arith) ∙ sym (decimal_one 2 n (omega arith) (omega arith))
places_enough (suc places) n h =
    ap (λ (l : List ℕ). cond (ltb n 10) (digit_of n ∷ []) (l ++ digit_of (n % 10) ∷ [])) (places_enough places (n / 10) (quotient_below places n h))
