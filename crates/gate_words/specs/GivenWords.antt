-- Words given one behind the other, each ended by a byte 0, and the numbers that they stand for. Assumes nothing.
use Rattle.std.specs.Prelude.{Bool, true, false, ◌&&◌, cond, is_some, unwrap_or, List, [], ◌∷◌, ℕ, zero, suc, ◌+◌, eqb, ℤ, pos, length, take, drop}
use Rattle.arithmetic.specs.Places.{table, all_of}
use Rattle.word_value.specs.WordValue.{parsed}

-- up to the first byte 0, or to the end
unfoldable pub word_length : List ℕ → ℕ
word_length [] = 0
word_length (b ∷ bs) = cond (eqb b 0) 0 (suc (word_length bs))

unfoldable pub same_word : List ℕ → List ℕ → Bool
same_word [] [] = true
same_word [] (b ∷ bs) = false
same_word (a ∷ rest) [] = false
same_word (a ∷ rest) (b ∷ bs) = eqb a b && same_word rest bs

-- ---- word by word, counted from 0

module _ (words : List ℕ) where
  -- where a word begins; past the end where there are not so many
  unfoldable pub word_start : ℕ → ℕ
  word_start zero = 0
  word_start (suc n) = suc (word_start n + word_length (drop (word_start n) words))

  unfoldable pub word : ℕ → List ℕ
  word n = take (word_length (drop (word_start n) words)) (drop (word_start n) words)

  -- so many words, each with its byte 0, and nothing behind
  unfoldable pub are_words : ℕ → Bool
  are_words count = eqb (word_start count) (length words)

  unfoldable pub is_number_at : ℕ → Bool
  is_number_at n = is_some (parsed (word n))

  -- 0 where the word is no number
  unfoldable pub number_at : ℕ → ℤ
  number_at n = unwrap_or (parsed (word n)) (pos 0)

  -- `count` words from one on are numbers
  unfoldable pub are_numbers : ℕ → ℕ → Bool
  are_numbers from count = all_of is_number_at (table (λ k. from + k) count)
