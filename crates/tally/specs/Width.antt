-- Document 02, T-01, refusal 31, and T-05: the widths that counts and sums have. Assumes nothing.
use Rattle.std.specs.Prelude.{Bool, ◌&&◌, List, ℕ, ◌+◌, ◌≤◌, leb, get_or}
use Rattle.arithmetic.specs.Places.{all_of}
use Rattle.tally.specs.LentSums.{Sums}

-- the greatest number of 32 bits, and of 64
abbrev pub most32 : ℕ
most32 = 4294967295

abbrev pub most64 : ℕ
most64 = 18446744073709551615

unfoldable pub within : ℕ → List ℕ → Bool
within most sums = all_of (λ sum. leb sum most) sums

-- no count or quality sum passes 32 bits, and no value sum or weighted sum 64
unfoldable pub fit_widths : Sums → Bool
fit_widths sums =
    within most32 sums.counts
    && (within most32 sums.quality_sums && (within most64 sums.value_sums && within most64 sums.weighted_sums))

-- the same of each number
pub record Fitting (sums : Sums) : Type 0 where
  pub counts_fit : (cell : ℕ) → get_or sums.counts cell 0 ≤ most32
  pub quality_sums_fit : (cell : ℕ) → get_or sums.quality_sums cell 0 ≤ most32
  pub value_sums_fit : (cell : ℕ) → get_or sums.value_sums cell 0 ≤ most64
  pub weighted_sums_fit : (cell : ℕ) → get_or sums.weighted_sums cell 0 ≤ most64

-- the same of one cell's count and sums with one gate more, of this quality and these shares of the value sum and the weighted sum
unfoldable pub has_room : ℕ → ℕ → ℕ → ℕ → ℕ → ℕ → ℕ → Bool
has_room count qualitySum valueSum weightedSum quality echo weighted =
    leb (count + 1) most32
    && (leb (qualitySum + quality) most32 && (leb (valueSum + echo) most64 && leb (weightedSum + weighted) most64))
