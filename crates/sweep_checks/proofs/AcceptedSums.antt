-- The lengths of sums that are accepted. Assumes nothing.
use mathlib.Core.Bool.{true}
use mathlib.Core.Path.{◌≡◌}
use borrow.Author.Tests.{eqb-true}
use lib.ListN.{length}
use Rattle.arithmetic.proofs.Test.{and_true}
use Rattle.tally.specs.LentSums.{Sums}
use Rattle.scan.specs.declared.head.ScanHead.{ScanHead}
use Rattle.scan.specs.Scan.{cells_of}
use Rattle.sweep_checks.specs.SweepLengths.{sums_accepted}

pub record AcceptedSums (head : ScanHead) (sums : Sums) : Type 0 where
  pub counts_length : length sums.counts ≡ cells_of head
  pub quality_sums_length : length sums.quality_sums ≡ cells_of head
  pub value_sums_length : length sums.value_sums ≡ cells_of head
  pub weighted_sums_length : length sums.weighted_sums ≡ cells_of head

pub accepted_sums : (head : ScanHead) (sums : Sums) → sums_accepted head sums ≡ true → AcceptedSums head sums
unfolding sums_accepted
accepted_sums head sums e =
    let first = and_true _ _ e in
    let second = and_true _ _ first.1 in
    let third = and_true _ _ second.1 in
    record {
      counts_length = eqb-true _ _ first.0;
      quality_sums_length = eqb-true _ _ second.0;
      value_sums_length = eqb-true _ _ third.0;
      weighted_sums_length = eqb-true _ _ third.1;
    }
