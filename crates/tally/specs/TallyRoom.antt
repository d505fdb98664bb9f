-- What the functions that add gates ask of their lists, and what adding leaves. Every accepted scan and every accepted group of rays meets it.
-- Assumes nothing.
use Rattle.std.specs.Prelude.{List, ◌≡◌, ℕ, ◌≤◌, eqb, length}
use denote.Triple.Both.{Both}
use Rattle.tally.specs.LentSums.{Sums}
use Rattle.tally.specs.Tally.{added_first, added_sums}
use Rattle.tally.specs.Width.{fit_widths}

-- a value and a quality for each gate, a place for each cell
pub record Addable (ledger values qualities : List ℕ) (sums : Sums) : Type 0 where
  pub values_length : length values ≡ length ledger
  pub qualities_length : length qualities ≡ length ledger
  pub quality_sums_length : length sums.quality_sums ≡ length sums.counts
  pub value_sums_length : length sums.value_sums ≡ length sums.counts
  pub weighted_sums_length : length sums.weighted_sums ≡ length sums.counts

-- so many gates are added, and they are all just where with all of them added no count or sum passes its width
pub record AddsGates (ledger values qualities : List ℕ) (sums : Both Sums Sums) (gates : ℕ) : Type 0 where
  pub gates_most : gates ≤ length ledger
  pub whether_all : eqb gates (length ledger) ≡ fit_widths (added_sums ledger values qualities sums.entry)
  pub the_sums : sums.exit ≡ added_first ledger values qualities gates sums.entry
