-- Numbers of one, two and four bytes, as the code puts them together, and their two's complement. Assumes nothing.
use mathlib.Core.Bool.{Bool, true, false, cond, ◌&&◌}
use mathlib.Core.List.{List, [], ◌∷◌}
use Rattle.std.specs.List.{list_all, range_with_len}
use Rattle.arithmetic.specs.Places.{table}
use mathlib.Core.Path.{sym, ap₂, ◌≡◌, refl, ap, ◌∙◌}
use Prim.Native.Nat.{ℕ, zero, suc, ◌+◌, ◌-◌, ◌*◌, ◌/◌, ◌<◌, ◌≤◌}
use native.Mathlib.Nat.{zero-add, add-zero}
use native.Mathlib.Omega.{arith}
use lib.Dec.{ltb}
use lib.IntN.{pos, negsuc}
use lib.ListN.{get_or}
use mir.Syntax.{w16, w32, w64}
use mir.Val.{SFits, to_z, sel}
use Rattle.std.specs.Int.{from_be_bytes}
use Rattle.arithmetic.specs.Places.{all_of}
use Rattle.big_endian.specs.BigEndian.{number_at, numbers_at, signed_of}

pub number_two : (bytes : List ℕ) (at : ℕ) → number_at 2 bytes at ≡ from_be_bytes w16 (get_or bytes at 0 ∷ get_or bytes (at + 1) 0 ∷ [])
unfolding number_at
number_two bytes at = rw add-zero (omega arith)

pub number_four : (bytes : List ℕ) (at : ℕ) → number_at 4 bytes at ≡ from_be_bytes w32 (get_or bytes at 0 ∷ get_or bytes (at + 1) 0 ∷ get_or bytes (at + 2) 0 ∷ get_or bytes (at + 3) 0 ∷ [])
unfolding number_at
number_four bytes at = rw add-zero (omega arith)

-- ---- a test of each number, by its index

all_in_table : (test : ℕ → Bool) (f g : ℕ → ℕ) (a n : ℕ) → ((k : ℕ) → g k ≡ f (a + k)) → list_all (λ k. test (f k)) (range_with_len a n) ≡ all_of test (table g n)
unfolding table all_of
all_in_table test f g a zero e = refl
all_in_table test f g a (suc n) e =
    ap₂ (λ (x y : Bool). x && y) (ap test (ap f (sym (add-zero a)) ∙ sym (e 0)))
    (all_in_table test f (λ k. g (suc k)) (a + 1) n (λ k. e (suc k) ∙ ap f (omega arith)))

pub all_numbers : (test : ℕ → Bool) (width : ℕ) (bytes : List ℕ) (at n : ℕ) → list_all (λ k. test (number_at width bytes (at + width * k))) (range_with_len 0 n) ≡ all_of test (numbers_at width bytes at n)
unfolding numbers_at
all_numbers test width bytes at n =
    all_in_table test (λ k. number_at width bytes (at + width * k)) (λ k. number_at width bytes (at + width * k)) 0 n (λ k. ap (λ (m : ℕ). number_at width bytes (at + width * m)) (sym (zero-add k)))

-- ---- two's complement, as the machine reads it

pub signed_two : (n : ℕ) → signed_of 65536 n ≡ to_z w16 n
unfolding signed_of
signed_two n = go (ltb n 32768)
  where
    go : (t : Bool) → cond t (pos n) (negsuc (65536 - suc n)) ≡ sel t (pos n) (negsuc (65536 - suc n))
    go true = refl
    go false = refl

pub signed_four : (n : ℕ) → signed_of 4294967296 n ≡ to_z w32 n
unfolding signed_of
signed_four n = go (ltb n 2147483648)
  where
    go : (t : Bool) → cond t (pos n) (negsuc (4294967296 - suc n)) ≡ sel t (pos n) (negsuc (4294967296 - suc n))
    go true = refl
    go false = refl

-- ---- a number so read fits 64 bits with a sign

pub signed_fits : (span n : ℕ) → span ≤ 4294967296 → n < span → SFits w64 (signed_of span n)
unfolding signed_of
signed_fits span n h i = go (ltb n (span / 2))
  where
    go : (t : Bool) → SFits w64 (cond t (pos n) (negsuc (span - suc n)))
    go true = record { sfits = omega arith }
    go false = record { sfits = omega arith }
