-- Document 02, T-05: publishing what a tally left, in either weighting, gives document 01's means and qualities. Assumes nothing.
use mathlib.Core.List.{List}
use mathlib.Core.Path.{◌≡◌, ap, ap₂, ◌∙◌}
use Prim.Native.Nat.{ℕ, ◌<◌, ◌≤◌}
use lib.ListN.{length, get_or}
use Rattle.arithmetic.specs.Places.{table}
use Rattle.arithmetic.proofs.Places.{table_length, table_at, table_ext}
use Rattle.limits.specs.declared.weighting.Weighting.{Weighting}
use Rattle.limits.specs.declared.weighting.Weighting.TheVariants.{Plain, ByQuality}
use Rattle.tally.specs.Tally.{value_sum_of, weighted_sum_of, tallied_sums}
use Rattle.publish.specs.CellMeans.{weighed, divisor_of, cell_value_sum, cell_divisor, cells_from}
use Rattle.publish.specs.Publish.{dividends, divisors, published_mean, published_quality, published_cells}
use Rattle.publish.proofs.PublishedRange.{mean_published, quality_published}

module _ (ledger values qualities : List ℕ) (cells : ℕ) where
  -- of a cell, what is divided is document 01's value sum, and the divisor is document 01's
  module _ (c : ℕ) (h : c < cells) where
    dividend_is : (weighting : Weighting) → get_or (dividends weighting (tallied_sums ledger values qualities cells)) c 0 ≡ cell_value_sum weighting ledger values qualities c
    unfolding dividends tallied_sums value_sum_of weighted_sum_of cell_value_sum weighed
    dividend_is Plain = table_at _ cells c h
    dividend_is ByQuality = table_at _ cells c h

    divisor_is : (weighting : Weighting) → get_or (divisors weighting (tallied_sums ledger values qualities cells)) c 0 ≡ cell_divisor weighting ledger values qualities c
    unfolding divisors tallied_sums cell_divisor divisor_of
    divisor_is Plain = table_at _ cells c h
    divisor_is ByQuality = table_at _ cells c h

  module _ (weighting : Weighting) where
    so_many : length (tallied_sums ledger values qualities cells).counts ≡ cells
    unfolding tallied_sums
    so_many = table_length _ cells

    means_are : ((k : ℕ) → get_or values k 0 ≤ 65535) → (published_cells weighting (tallied_sums ledger values qualities cells)).means ≡ (cells_from weighting ledger values qualities cells).means
    unfolding published_cells cells_from
    means_are small =
        ap (table _) so_many
        ∙ table_ext _ _ cells (λ c h.
        ap₂ published_mean (dividend_is c h weighting) (divisor_is c h weighting) ∙ mean_published ledger values qualities c weighting small)

    qualities_are : ((k : ℕ) → get_or qualities k 0 ≤ 100) → (published_cells weighting (tallied_sums ledger values qualities cells)).qualities ≡ (cells_from weighting ledger values qualities cells).qualities
    unfolding published_cells cells_from tallied_sums
    qualities_are small =
        ap (table _) so_many
        ∙ table_ext _ _ cells (λ c h.
        ap₂ published_quality (table_at _ cells c h) (table_at _ cells c h) ∙ quality_published ledger values qualities c weighting small)

    -- values of 16 bits and qualities of at most 100 give means of at most 65,533 and qualities of at most 100
    pub tally_published : ((k : ℕ) → get_or values k 0 ≤ 65535) → ((k : ℕ) → get_or qualities k 0 ≤ 100) → published_cells weighting (tallied_sums ledger values qualities cells) ≡ cells_from weighting ledger values qualities cells
    tally_published small good i = record { means = means_are small i; qualities = qualities_are good i }
