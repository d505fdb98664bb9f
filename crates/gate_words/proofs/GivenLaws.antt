-- Words read byte by byte. Assumes nothing.
use mathlib.Core.Bool.{Bool, true, false, not, cond, ◌&&◌}
use mathlib.Core.List.{List, [], ◌∷◌}
use mathlib.Core.Path.{◌≡◌, refl, sym, ap, ap₂, ◌∙◌}
use Prim.Native.Nat.{ℕ, zero, suc, ◌+◌, ◌≤◌}
use native.Mathlib.Nat.{add-zero}
use native.Mathlib.Numerals.{add-one}
use native.Mathlib.Omega.{arith}
use borrow.Author.Tests.{lt-ltb, le-ltb}
use lib.Dec.{eqb, ltb}
use lib.ListN.{length, drop}
use lib.Pointwise.{pointwise}
use Rattle.std.specs.Prelude.{◌==◌, Some, None}
use Rattle.std.specs.List.{list_all, range_with_len, position, position_or_len}
use Rattle.std.specs.Option.{unwrap_or}
use Rattle.std.proofs.lemmas.List.Sums.{prefix_len-le-length}
use Rattle.std.proofs.lemmas.List.Recursion.{is_position_or_len}
use Rattle.arithmetic.specs.Places.{table, all_of}
use Rattle.arithmetic.proofs.Places.{before_or_after}
use Rattle.gate_words.specs.GivenWords.{word_length, same_word, word_start}

-- ---- where a word ends

length_found : (bytes : List ℕ) → word_length bytes ≡ position_or_len (λ b. b == 0) bytes
unfolding word_length
length_found bytes = is_position_or_len word_length (λ b. b == 0) refl (λ b rest. cases (b == 0) (word_length rest)) bytes
  where
    cases : (t : Bool) (n : ℕ) → cond t 0 (suc n) ≡ cond t 0 (1 + n)
    cases true n = refl
    cases false n = omega arith

pub length_within : (bytes : List ℕ) → word_length bytes ≤ length bytes
length_within bytes = rw (length_found bytes) (prefix_len-le-length (λ b. not (b == 0)) bytes)

pub length_or : (bytes : List ℕ) → unwrap_or (position (λ b. b == 0) bytes) (length bytes) ≡ word_length bytes
length_or bytes = rw (length_found bytes) (cases (position_or_len (λ b. b == 0) bytes) (length bytes) (rw (length_found bytes) at (length_within bytes)))
  where
    cases : (p n : ℕ) → p ≤ n → unwrap_or (cond (ltb p n) (Some p) None) n ≡ p
    cases p n h = before_or_after p n (λ l. rw (lt-ltb p n l)) (λ l. rw (le-ltb p n l) (omega arith))

-- ---- where the next word begins

pub start_next : (words : List ℕ) (k : ℕ) {start n : ℕ} → start ≡ word_start words k → n ≡ word_length (drop start words) → start + (n + 1) ≡ word_start words (k + 1)
unfolding word_start
start_next words k {start} {n} s e = rw (add-one k, ← s, ← e) (omega arith)

-- ---- a test of so many numbers from one on

all_in_table : (test : ℕ → Bool) (f g : ℕ → ℕ) (a n : ℕ) → ((k : ℕ) → g k ≡ f (a + k)) → list_all (λ k. test (f k)) (range_with_len a n) ≡ all_of test (table g n)
unfolding table all_of
all_in_table test f g a zero e = refl
all_in_table test f g a (suc n) e =
    ap₂ (λ (x y : Bool). x && y) (ap test (ap f (sym (add-zero a)) ∙ sym (e 0)))
    (all_in_table test f (λ k. g (suc k)) (a + 1) n (λ k. e (suc k) ∙ ap f (omega arith)))

pub all_from : (test : ℕ → Bool) (from count : ℕ) → list_all (λ k. test (from + k)) (range_with_len 0 count) ≡ all_of test (table (λ k. from + k) count)
all_from test from count = all_in_table test (λ k. from + k) (λ k. from + k) 0 count (λ k. omega arith)

-- ---- whether two words are the same, as `==` tests it

pub same_bytes : (a b : List ℕ) → pointwise eqb a b ≡ same_word a b
unfolding same_word
same_bytes [] [] = refl
same_bytes [] (y ∷ b) = refl
same_bytes (x ∷ a) [] = refl
same_bytes (x ∷ a) (y ∷ b) = rw (same_bytes a b)
