-- What taking gates out asks of the sums. Assumes nothing.
use Rattle.std.specs.Prelude.{List, ◌≡◌, ℕ}
use Rattle.tally.specs.LentSums.{Sums}
use Rattle.tally.specs.Tally.{added_sums}
use Rattle.tally.specs.TallyRoom.{Addable}

-- the sums are what some sums became when these gates were added
pub record AddedBefore (ledger values qualities : List ℕ) (sums : Sums) : Type 0 where
  pub before : Sums
  pub addable : Addable ledger values qualities before
  pub added_then : sums ≡ added_sums ledger values qualities before
