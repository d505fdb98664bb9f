-- `take_out::take_out_gates` meets its contract. The loop's invariant: the lists are some sums with the first k gates added, which were those that
-- came in with all gates added. Assumes nothing.
use mathlib.Core.Path.{sym, ◌∙◌}
use native.Mathlib.Omega.{arith}
use borrow.Author.Rules.{rules}
use Rattle.take_out.proofs.SumsUndone.{undone_none, undone_no_cell, undone_unmeasured, gate_there, undone_measured, undone_all}
use Rattle.take_out.proofs.take_out_gates.Goals.{then-sums-cell-via-then-sums-cell, then-sums-cell-via-else-sums-cell+then-not-is_measured}
use Rattle.take_out.proofs.take_out_gates.Goals as goal

pub loop-k-init : goal.loop-k-init
loop-k-init c = record { kept = search rules; undone = undone_none c.requires }

pub loop-k-preserved-then-sums-cell : goal.loop-k-preserved-then-sums-cell
loop-k-preserved-then-sums-cell c = record {
  kept = search rules;
  undone = elim c.then-sums-cell.branch [
    | then-sums-cell-via-then-sums-cell w ↦ undone_no_cell c.loop-k.invariant.undone _ (omega arith) w.if-sums-cell.true
    | then-sums-cell-via-else-sums-cell+then-not-is_measured w ↦ undone_unmeasured c.loop-k.invariant.undone _ (omega arith) (sym w.is_measured.ensures ∙ w.if-not-is_measured.true)
  ];
}

pub without_gate-less-requires : goal.without_gate-less-requires
without_gate-less-requires c = rw c.cell.ensures (gate_there c.loop-k.invariant.undone _ (omega arith) (omega arith) (sym c.is_measured.ensures ∙ c.if-not-is_measured.false))

pub loop-k-preserved : goal.loop-k-preserved
loop-k-preserved c = record {
  kept = search rules;
  undone = rw c.set_cell.ensures.the_cell (undone_measured c.loop-k.invariant.undone _ (omega arith) (omega arith) (sym c.is_measured.ensures ∙ c.if-not-is_measured.false) _ (rw (← c.cell.ensures) c.without_gate-less.ensures));
}

pub returns-clause-taken_out : goal.returns-clause-taken_out
returns-clause-taken_out c = undone_all c.loop-k.invariant.undone (omega arith)
