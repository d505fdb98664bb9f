-- `tally::lists::SumsMut::add_gates` meets its contract. Assumes nothing.
use mathlib.Core.Path.{sym, ◌∙◌}
use native.Mathlib.Omega.{arith}
use borrow.Author.Rules.{rules}
use Rattle.tally.proofs.GatesTallied.{tallied_none, tallied_no_cell, tallied_unmeasured, tallied_measured, tallied_full, tallied_all}
use Rattle.tally.proofs.lists.SumsMut.add_gates.Goals.{then-self-cell-via-then-self-cell, then-self-cell-via-else-self-cell+then-not-is_measured}
use Rattle.tally.proofs.lists.SumsMut.add_gates.Goals as goal

pub loop-k-init : goal.loop-k-init
loop-k-init c = record { kept = search rules; tallied = tallied_none c.fit.ensures }

pub loop-k-preserved-then-self-cell : goal.loop-k-preserved-then-self-cell
loop-k-preserved-then-self-cell c = record {
  kept = search rules;
  tallied = elim c.then-self-cell.branch [
    | then-self-cell-via-then-self-cell w ↦ tallied_no_cell c.requires c.loop-k.invariant.tallied w.if-self-cell.true
    | then-self-cell-via-else-self-cell+then-not-is_measured w ↦ tallied_unmeasured c.requires c.loop-k.invariant.tallied (sym w.is_measured.ensures ∙ w.if-not-is_measured.true)
  ];
}

pub returns-in_default-clause-added : goal.returns-in_default-clause-added
returns-in_default-clause-added c =
    tallied_full c.requires c.loop-k.invariant.tallied (omega arith) (sym c.is_measured.ensures ∙ c.if-not-is_measured.false) (rw (← c.cell.ensures, ← c.with_gate.ensures) (sym c.in_default.is)) (omega arith)

pub loop-k-preserved : goal.loop-k-preserved
loop-k-preserved c = record {
  kept = search rules;
  tallied = rw c.set_cell.ensures.the_cell (tallied_measured c.requires c.loop-k.invariant.tallied (omega arith) (sym c.is_measured.ensures ∙ c.if-not-is_measured.false) (rw (← c.cell.ensures, ← c.with_gate.ensures) (sym c.in-Some.is)));
}

pub returns-clause-added : goal.returns-clause-added
returns-clause-added c = tallied_all c.requires c.loop-k.invariant.tallied (omega arith)
