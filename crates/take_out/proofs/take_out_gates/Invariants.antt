use Rattle.tally.specs.LentSums.{KeepsSums, sums_in}
use Rattle.take_out.proofs.SumsUndone.{Undone}
use Rattle.take_out.proofs.take_out_gates.Given as goal

abbrev pub invariant-loop-k : goal.invariant-loop-k
invariant-loop-k l = record {
  kept : KeepsSums l.initial.sums l.sums;
  undone : Undone l.gates.ledger.now l.gates.values.now l.gates.qualities.now l.k (sums_in l.initial.sums) (sums_in l.sums);
}
