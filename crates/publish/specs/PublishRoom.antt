-- What the publisher's steps ask of its lists. Lists that are all equally long meet it. Assumes nothing.
use Rattle.std.specs.Prelude.{◌≡◌, length}
use Rattle.tally.specs.LentSums.{Sums, Cells}

-- a place for each cell in every list
pub record Publishable (sums : Sums) (cells : Cells) : Type 0 where
  pub quality_sums_length : length sums.quality_sums ≡ length sums.counts
  pub value_sums_length : length sums.value_sums ≡ length sums.counts
  pub weighted_sums_length : length sums.weighted_sums ≡ length sums.counts
  pub means_length : length cells.means ≡ length sums.counts
  pub cell_qualities_length : length cells.qualities ≡ length sums.counts
