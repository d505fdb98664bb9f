use Rattle.tally.specs.LentSums.{KeepsSums, sums_in}
use Rattle.tally.proofs.GatesTallied.{Tallied}
use Rattle.tally.proofs.lists.SumsMut.add_gates.Given as goal

abbrev pub invariant-loop-k : goal.invariant-loop-k
invariant-loop-k l = record {
  kept : KeepsSums l.initial.self l.self;
  tallied : Tallied l.gates.ledger.now l.gates.values.now l.gates.qualities.now l.k (sums_in l.initial.self) (sums_in l.self);
}
