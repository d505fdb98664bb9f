-- What adding the gates of a group of rays asks. Every accepted group meets it. Assumes nothing.
use Rattle.std.specs.Prelude.{List, ◌≡◌, ℕ, ◌*◌, length}
use Rattle.placement.specs.declared.centres.Centres.{Centres}
use Rattle.ray_sums.specs.RaySums.{RayRanges}
use Rattle.tally.specs.LentSums.{Sums}
use Rattle.tally.specs.Tally.{added_first}

-- so many gates in each ray, none beyond the greatest range; a value and a quality for each gate of each ray, a place for each cell
pub record GroupAddable (centres : Centres) (gates : ℕ) (azimuths values qualities : List ℕ) (sums : Sums) : Type 0 where
  pub in_range : RayRanges centres gates
  pub values_length : length values ≡ length azimuths * gates
  pub qualities_length : length qualities ≡ length azimuths * gates
  pub quality_sums_length : length sums.quality_sums ≡ length sums.counts
  pub value_sums_length : length sums.value_sums ≡ length sums.counts
  pub weighted_sums_length : length sums.weighted_sums ≡ length sums.counts

-- the sums are what some sums became when the first gates were added
pub record RaysAdded (ledger values qualities : List ℕ) (gates : ℕ) (sums : Sums) : Type 0 where
  pub before : Sums
  pub added_then : sums ≡ added_first ledger values qualities gates before
