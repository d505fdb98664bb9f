-- Lists by what stands at each place, and sums over places. Assumes nothing.
use Rattle.std.specs.Prelude.{Bool, ◌&&◌, true, List, [], ◌∷◌, ◌≡◌, ℕ, zero, suc, ◌+◌, ◌<◌, ◌≤◌, length, get_or}

-- f 0, f 1, .., f (n - 1)
unfoldable pub table : (ℕ → ℕ) → ℕ → List ℕ
table f zero = []
table f (suc n) = f zero ∷ table (λ k. f (suc k)) n

-- f 0 + f 1 + .. + f (n - 1)
unfoldable pub sum_to : (ℕ → ℕ) → ℕ → ℕ
sum_to f zero = 0
sum_to f (suc n) = sum_to f n + f n

-- the test passes at each element
unfoldable pub all_of : (ℕ → Bool) → List ℕ → Bool
all_of test [] = true
all_of test (x ∷ xs) = test x && all_of test xs

-- from place a up to place b the list holds f, and elsewhere what it held before
pub record Written (f : ℕ → ℕ) (a b : ℕ) (before after : List ℕ) : Type 0 where
  pub same_length : length after ≡ length before
  pub written : (k : ℕ) → a ≤ k → k < b → k < length before → get_or after k 0 ≡ f k
  pub kept_below : (k : ℕ) → k < a → get_or after k 0 ≡ get_or before k 0
  pub kept_above : (k : ℕ) → b ≤ k → get_or after k 0 ≡ get_or before k 0
