-- Document 01, "Ledger and cells", and document 02, T-05: means and qualities of cells, from any sums. Assumes nothing.
use Rattle.std.specs.Prelude.{cond, List, ℕ, ◌/◌, eqb, leb, length, get_or}
use Rattle.arithmetic.specs.Places.{table}
use Rattle.limits.specs.declared.weighting.Weighting.{Weighting}
use Rattle.limits.specs.declared.weighting.Weighting.TheVariants.{Plain, ByQuality}
use Rattle.tally.specs.LentSums.{Sums, Cells}

-- ---- one cell

-- floor(value sum / divisor), or 65,535 with a zero divisor
unfoldable pub mean_of : ℕ → ℕ → ℕ
mean_of valueSum divisor = cond (eqb divisor 0) 65535 (valueSum / divisor)

-- floor(quality sum / count), 0 for an empty cell
unfoldable pub quality_of : ℕ → ℕ → ℕ
quality_of qualitySum count = cond (eqb count 0) 0 (qualitySum / count)

-- what is published: of sums that no tally made, a mean above 65,533 becomes 65,535 and a quality above 100 becomes 100
unfoldable pub published_mean : ℕ → ℕ → ℕ
published_mean valueSum divisor = cond (leb (mean_of valueSum divisor) 65533) (mean_of valueSum divisor) 65535

unfoldable pub published_quality : ℕ → ℕ → ℕ
published_quality qualitySum count = cond (leb (quality_of qualitySum count) 100) (quality_of qualitySum count) 100

-- ---- all cells, in the weighting asked

-- plain: the value sums by the counts; by quality: the weighted sums by the quality sums
unfoldable pub dividends : Weighting → Sums → List ℕ
dividends Plain sums = sums.value_sums
dividends ByQuality sums = sums.weighted_sums

unfoldable pub divisors : Weighting → Sums → List ℕ
divisors Plain sums = sums.counts
divisors ByQuality sums = sums.quality_sums

unfoldable pub published_cells : Weighting → Sums → Cells
published_cells weighting sums = record {
  means = table (λ c. published_mean (get_or (dividends weighting sums) c 0) (get_or (divisors weighting sums) c 0)) (length sums.counts);
  qualities = table (λ c. published_quality (get_or sums.quality_sums c 0) (get_or sums.counts c 0)) (length sums.counts);
}
