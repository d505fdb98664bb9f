-- Document 01, "Ledger and cells", and document 02, T-05: a cell's count and sums, over the measured gates whose ledger entry names it. Assumes
-- nothing.
use Rattle.std.specs.Prelude.{Bool, ◌&&◌, cond, List, ℕ, ◌+◌, eqb, length, get_or, replicate}
use Rattle.arithmetic.specs.Places.{table, sum_to}
use Rattle.tally.specs.LentSums.{Sums}
use Rattle.tally.specs.Gates.{is_measured, echo_of, weighted_echo}

module _ (ledger values qualities : List ℕ) where
  -- gate k is measured and its entry names the cell
  unfoldable pub contributes : ℕ → ℕ → Bool
  contributes cell k = eqb (get_or ledger k 0) cell && is_measured (get_or values k 0)

  -- the sum, over the first n gates that contribute to the cell, of what the share gives for value and quality
  unfoldable pub sum_over : (ℕ → ℕ → ℕ) → ℕ → ℕ → ℕ
  sum_over share n cell =
      sum_to (λ k. cond (contributes cell k) (share (get_or values k 0) (get_or qualities k 0)) 0) n

  unfoldable pub count_of : ℕ → ℕ
  count_of cell = sum_over (λ value quality. 1) (length ledger) cell

  unfoldable pub quality_sum_of : ℕ → ℕ
  quality_sum_of cell = sum_over (λ value quality. quality) (length ledger) cell

  unfoldable pub value_sum_of : ℕ → ℕ
  value_sum_of cell = sum_over (λ value quality. echo_of value) (length ledger) cell

  unfoldable pub weighted_sum_of : ℕ → ℕ
  weighted_sum_of cell = sum_over weighted_echo (length ledger) cell

-- ---- of so many cells: tallies start from nothing

unfoldable pub tallied_sums : List ℕ → List ℕ → List ℕ → ℕ → Sums
tallied_sums ledger values qualities cells = record {
  counts = table (count_of ledger values qualities) cells;
  quality_sums = table (quality_sum_of ledger values qualities) cells;
  value_sums = table (value_sum_of ledger values qualities) cells;
  weighted_sums = table (weighted_sum_of ledger values qualities) cells;
}

unfoldable pub cleared : Sums → Sums
cleared sums = record {
  counts = replicate (length sums.counts) 0;
  quality_sums = replicate (length sums.quality_sums) 0;
  value_sums = replicate (length sums.value_sums) 0;
  weighted_sums = replicate (length sums.weighted_sums) 0;
}

-- ---- added onto what the sums hold

-- each number with its cell's share added
unfoldable pub added : (ℕ → ℕ) → List ℕ → List ℕ
added share held = table (λ cell. get_or held cell 0 + share cell) (length held)

-- the first n gates
unfoldable pub added_first : List ℕ → List ℕ → List ℕ → ℕ → Sums → Sums
added_first ledger values qualities n sums = record {
  counts = added (sum_over ledger values qualities (λ value quality. 1) n) sums.counts;
  quality_sums = added (sum_over ledger values qualities (λ value quality. quality) n) sums.quality_sums;
  value_sums = added (sum_over ledger values qualities (λ value quality. echo_of value) n) sums.value_sums;
  weighted_sums = added (sum_over ledger values qualities weighted_echo n) sums.weighted_sums;
}

-- all gates
unfoldable pub added_sums : List ℕ → List ℕ → List ℕ → Sums → Sums
added_sums ledger values qualities sums = added_first ledger values qualities (length ledger) sums
