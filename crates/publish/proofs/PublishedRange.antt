-- Document 01, "Ledger and cells": what a tally makes is in range, so it is published as it is. Assumes nothing.
use mathlib.Core.Bool.{Bool, true, false, cond}
use mathlib.Core.List.{List}
use mathlib.Core.Path.{◌≡◌, refl}
use Prim.Native.Nat.{ℕ, ◌*◌, ◌/◌, ◌≤◌}
use native.Mathlib.Nat.{div-le_of_le-mul, mul_comm}
use native.Mathlib.Omega.{arith}
use borrow.Author.Tests.{le-leb, eqb-false}
use lib.Dec.{eqb, leb}
use lib.ListN.{length, get_or}
use Rattle.arithmetic.proofs.Places.{sum_scale}
use Rattle.arithmetic.proofs.Test.{and_true}
use Rattle.limits.specs.declared.weighting.Weighting.{Weighting}
use Rattle.tally.specs.Gates.{is_measured}
use Rattle.tally.specs.Tally.{contributes, sum_over, count_of, quality_sum_of}
use Rattle.publish.specs.CellMeans.{cell_value_sum, cell_divisor, cell_mean, cell_quality}
use Rattle.publish.specs.Publish.{mean_of, quality_of, published_mean, published_quality}
use Rattle.tally.proofs.TallyWidth.{echo_most}
use Rattle.publish.proofs.MeanBetween.{mean_most}

-- ---- one gate

quality_share : (contributing : Bool) (quality : ℕ) → quality ≤ 100 → cond contributing quality 0 ≤ 100 * cond contributing 1 0
quality_share true quality h = omega arith
quality_share false quality h = omega arith

-- ---- one quotient

mean_unchanged : (valueSum divisor : ℕ) → ((divisor ≡ 0 → ⊥) → mean_of valueSum divisor ≤ 65533) → published_mean valueSum divisor ≡ mean_of valueSum divisor
unfolding published_mean mean_of
mean_unchanged valueSum divisor h = go (eqb divisor 0) (λ e. h (eqb-false divisor 0 e))
  where
    go : (t : Bool) → (t ≡ false → cond t 65535 (valueSum / divisor) ≤ 65533) → cond (leb (cond t 65535 (valueSum / divisor)) 65533) (cond t 65535 (valueSum / divisor)) 65535 ≡ cond t 65535 (valueSum / divisor)
    go true k = refl
    go false k = rw (le-leb (valueSum / divisor) 65533 (k refl))

quotient_most : (qualitySum count : ℕ) → qualitySum ≤ 100 * count → quality_of qualitySum count ≤ 100
unfolding quality_of
quotient_most qualitySum count h = go (eqb count 0)
  where
    go : (t : Bool) → cond t 0 (qualitySum / count) ≤ 100
    go true = omega arith
    go false = div-le_of_le-mul count (rw mul_comm h)

-- ---- a cell of a tally

module _ (ledger values qualities : List ℕ) (cell : ℕ) where
  is_measured_lem : (k : ℕ) → contributes ledger values qualities cell k ≡ true → is_measured (get_or values k 0) ≡ true
  unfolding contributes
  is_measured_lem k e = (and_true (eqb (get_or ledger k 0) cell) (is_measured (get_or values k 0)) e).1

  -- "With a zero divisor it is 65,535": with any other, values of 16 bits give a mean of at most 65,533
  pub mean_in_range : (weighting : Weighting) → ((k : ℕ) → get_or values k 0 ≤ 65535) → (cell_divisor weighting ledger values qualities cell ≡ 0 → ⊥) → cell_mean weighting ledger values qualities cell ≤ 65533
  mean_in_range weighting small =
      mean_most weighting ledger values qualities cell 65533 (λ k p. echo_most (get_or values k 0) (small k) (is_measured_lem k p.is_in_cell))

  -- so the published mean is "floor(value sum / count), or floor(value sum / quality sum) by quality"
  pub mean_published : (weighting : Weighting) → ((k : ℕ) → get_or values k 0 ≤ 65535) → published_mean (cell_value_sum weighting ledger values qualities cell) (cell_divisor weighting ledger values qualities cell) ≡ cell_mean weighting ledger values qualities cell
  unfolding cell_mean
  mean_published weighting small = mean_unchanged _ _ (mean_in_range weighting small)

  -- "Cell quality is floor(quality sum / count), 0 for an empty cell": qualities of at most 100 give one of at most 100
  pub quality_in_range : (weighting : Weighting) → ((k : ℕ) → get_or qualities k 0 ≤ 100) → cell_quality weighting ledger values qualities cell ≤ 100
  unfolding cell_quality quality_sum_of count_of sum_over
  quality_in_range weighting small =
      quotient_most _ _ (sum_scale 100 _ _ (length ledger) (λ k h. quality_share (contributes ledger values qualities cell k) (get_or qualities k 0) (small k)))

  -- so the published quality is that quotient
  pub quality_published : (weighting : Weighting) → ((k : ℕ) → get_or qualities k 0 ≤ 100) → published_quality (quality_sum_of ledger values qualities cell) (count_of ledger values qualities cell) ≡ cell_quality weighting ledger values qualities cell
  unfolding published_quality cell_quality
  quality_published weighting small = rw (le-leb _ _ (quality_in_range weighting small))
