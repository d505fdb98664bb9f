use Rattle.arithmetic.specs.Places.{Written}
use Rattle.placement.specs.Centres.{centre_of}
use Rattle.placement.specs.Gate.{entry_of, mark_of}
use Rattle.placement.specs.Survey.{surveyed_gate}
use Rattle.placement.proofs.ledger.ray_ledger.Given as goal

abbrev pub invariant-loop-gate : goal.invariant-loop-gate
invariant-loop-gate l = record {
  entries : Written (λ g. surveyed_gate entry_of l.survey l.azimuth (centre_of l.centres g)) 0 l.gate l.initial.ledger l.ledger;
  marks : Written (λ g. surveyed_gate mark_of l.survey l.azimuth (centre_of l.centres g)) 0 l.gate l.initial.marks l.marks;
}
