-- Document 01, "Ledger and cells": a cell's mean and quality, over its gates. Assumes nothing.
use Rattle.std.specs.Prelude.{true, List, ◌≡◌, ℕ, ◌<◌, length, get_or}
use Rattle.arithmetic.specs.Places.{table}
use Rattle.limits.specs.declared.weighting.Weighting.{Weighting}
use Rattle.limits.specs.declared.weighting.Weighting.TheVariants.{Plain, ByQuality}
use Rattle.tally.specs.Gates.{echo_of, weighted_echo}
use Rattle.tally.specs.LentSums.{Cells}
use Rattle.tally.specs.Tally.{contributes, sum_over, count_of, quality_sum_of}
use Rattle.publish.specs.Publish.{mean_of, quality_of}

-- a gate's share of the value sum: plain: the value; by quality: value x quality
unfoldable pub weighed : Weighting → ℕ → ℕ → ℕ
weighed Plain value quality = echo_of value
weighed ByQuality value quality = weighted_echo value quality

-- plain: the count; by quality: the quality sum
unfoldable pub divisor_of : Weighting → ℕ → ℕ → ℕ
divisor_of Plain count qualitySum = count
divisor_of ByQuality count qualitySum = qualitySum

module _ (weighting : Weighting) (ledger values qualities : List ℕ) where
  unfoldable pub cell_value_sum : ℕ → ℕ
  cell_value_sum cell = sum_over ledger values qualities (weighed weighting) (length ledger) cell

  unfoldable pub cell_divisor : ℕ → ℕ
  cell_divisor cell = divisor_of weighting (count_of ledger values qualities cell) (quality_sum_of ledger values qualities cell)

  unfoldable pub cell_mean : ℕ → ℕ
  cell_mean cell = mean_of (cell_value_sum cell) (cell_divisor cell)

  unfoldable pub cell_quality : ℕ → ℕ
  cell_quality cell = quality_of (quality_sum_of ledger values qualities cell) (count_of ledger values qualities cell)

  -- gate k has a part in the mean of a cell: it contributes to the cell, and, by quality, its quality is not 0
  pub record HasPart (cell k : ℕ) : Type 0 where
    pub is_gate : k < length ledger
    pub is_in_cell : contributes ledger values qualities cell k ≡ true
    pub has_quality : weighting ≡ ByQuality → get_or qualities k 0 ≡ 0 → ⊥

  -- of so many cells
  unfoldable pub cells_from : ℕ → Cells
  cells_from cells = record { means = table cell_mean cells; qualities = table cell_quality cells }
