-- What is known where gates were added, and all of them fit. Assumes nothing.
use mathlib.Core.Path.{◌≡◌, ◌∙◌}
use mathlib.Core.Bool.{true}
use mathlib.Core.List.{List}
use Prim.Native.Nat.{ℕ}
use denote.Triple.Both.{Both}
use borrow.Author.Tests.{eqb-true}
use lib.ListN.{length}
use Rattle.tally.specs.LentSums.{Sums}
use Rattle.tally.specs.Tally.{added_sums}
use Rattle.tally.specs.TallyRoom.{AddsGates}
use Rattle.tally.specs.Width.{fit_widths}

pub all_added : {ledger values qualities : List ℕ} {sums : Both Sums Sums} {gates : ℕ} → AddsGates ledger values qualities sums gates → fit_widths (added_sums ledger values qualities sums.entry) ≡ true → sums.exit ≡ added_sums ledger values qualities sums.entry
unfolding added_sums
all_added {ledger = ledger} {gates = gates} adds fit = adds.the_sums ∙ rw (eqb-true gates (length ledger) (adds.whether_all ∙ fit))
