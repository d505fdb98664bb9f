use lib.ListN.{length}
use Rattle.extremes.specs.LentExtremes.{KeepsExtremes, extremes_in}
use Rattle.extremes.proofs.GatesCompared.{ComparedSoFar}
use Rattle.extremes.proofs.lists.ExtremesMut.compare_gates.Given as goal

abbrev pub invariant-loop-entry : goal.invariant-loop-entry
invariant-loop-entry l = record {
  kept : KeepsExtremes l.initial.self l.self;
  so_far : ComparedSoFar l.ledger l.values (length l.yielded) (extremes_in l.initial.self) (extremes_in l.self);
}
