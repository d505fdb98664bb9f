-- What adding a ray's gates asks, and what adding all or nothing leaves. Assumes nothing.
use Rattle.std.specs.Prelude.{Bool, cond, List, ◌≡◌, ℕ, ◌≤◌, ◌<◌, length}
use denote.Triple.Both.{Both}
use Rattle.placement.specs.declared.centres.Centres.{Centres}
use Rattle.placement.specs.Centres.{centre_of}
use Rattle.tally.specs.LentSums.{Sums}
use Rattle.tally.specs.Tally.{added_sums}
use Rattle.tally.specs.Width.{fit_widths}

-- at most 1,000 gates, none beyond the greatest range
pub record RayRanges (centres : Centres) (gates : ℕ) : Type 0 where
  pub gates_most : gates ≤ 1000
  pub ranges : (g : ℕ) → g < gates → centre_of centres g ≤ 46000000

-- a value, a quality and a place for the entry of each gate of a ray, a place for each cell
pub record RayAddable (centres : Centres) (entries values qualities : List ℕ) (sums : Sums) : Type 0 where
  pub in_range : RayRanges centres (length entries)
  pub values_length : length values ≡ length entries
  pub qualities_length : length qualities ≡ length entries
  pub quality_sums_length : length sums.quality_sums ≡ length sums.counts
  pub value_sums_length : length sums.value_sums ≡ length sums.counts
  pub weighted_sums_length : length sums.weighted_sums ≡ length sums.counts

-- all gates are added just where no count or sum then passes its width; otherwise the sums are as they came in
pub record AddsAll (ledger values qualities : List ℕ) (sums : Both Sums Sums) (answer : Bool) : Type 0 where
  pub the_answer : answer ≡ fit_widths (added_sums ledger values qualities sums.entry)
  pub the_sums : sums.exit ≡ cond answer (added_sums ledger values qualities sums.entry) sums.entry
