use Rattle.placement.specs.Gate.{entry_of, mark_of}
use Rattle.scan_ledger.proofs.RaysWritten.{WrittenTo}
use Rattle.scan_ledger.proofs.scan_ledger.Given as goal

abbrev pub invariant-loop-ray : goal.invariant-loop-ray
invariant-loop-ray l = record {
  entries : WrittenTo entry_of l.survey l.gates l.centres l.azimuths l.ray l.initial.ledger l.ledger;
  marks : WrittenTo mark_of l.survey l.gates l.centres l.azimuths l.ray l.initial.marks l.marks;
}
