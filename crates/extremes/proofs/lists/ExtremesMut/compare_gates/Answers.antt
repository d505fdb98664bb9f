-- `extremes::lists::ExtremesMut::compare_gates` meets its contract. Assumes nothing.
use mathlib.Core.Path.{sym, ◌∙◌}
use Rattle.std.proofs.Common.{length-append}
use native.Mathlib.Omega.{arith}
use borrow.Author.Rules.{rules}
use Rattle.std.proofs.lemmas.Slice.Zip.{zip_turn, zip_end}
use Rattle.extremes.proofs.GatesCompared.{compared_none, compared_no_cell, compared_unmeasured, compared_measured, compared_all}
use Rattle.extremes.proofs.lists.ExtremesMut.compare_gates.Goals.{else-cell-self-via-then-cell-self+else-is_measured, else-cell-self-via-else-cell-self}
use Rattle.extremes.proofs.lists.ExtremesMut.compare_gates.Goals as goal

pub loop-entry-init : goal.loop-entry-init
loop-entry-init c = record { kept = search rules; so_far = compared_none }

pub loop-entry-preserved-then-is_measured : goal.loop-entry-preserved-then-is_measured
loop-entry-preserved-then-is_measured c =
    let turn = zip_turn c.args.ledger.now c.args.values.now c.loop-entry.yielded c.into_iter-entry-iterator.result c.loop-entry.entry-iterator c.next.new.self c.next.result (search rules) (search rules) c.loop-entry.yielded_by _ c.in-Some.is c.next.ensures.steps in
    record {
      kept = search rules;
      so_far = rw (c.min.ensures, c.max.ensures) (compared_measured c.requires c.loop-entry.invariant.so_far (turn.2 0) (turn.3 0) (length-append c.loop-entry.yielded _) c.if-cell-self.true (sym c.is_measured.ensures ∙ c.if-is_measured.true) c.echo_of-echo.ensures);
    }

pub loop-entry-preserved : goal.loop-entry-preserved
loop-entry-preserved c =
    let turn = zip_turn c.args.ledger.now c.args.values.now c.loop-entry.yielded c.into_iter-entry-iterator.result c.loop-entry.entry-iterator c.next.new.self c.next.result (search rules) (search rules) c.loop-entry.yielded_by _ c.in-Some.is c.next.ensures.steps in
    record {
      kept = search rules;
      so_far = elim c.else-cell-self.branch [
        | else-cell-self-via-then-cell-self+else-is_measured w ↦ compared_unmeasured c.requires c.loop-entry.invariant.so_far (turn.2 0) (turn.3 0) (length-append c.loop-entry.yielded _) (sym w.is_measured.ensures ∙ w.if-is_measured.false)
        | else-cell-self-via-else-cell-self w ↦ compared_no_cell c.requires c.loop-entry.invariant.so_far (turn.2 0) (turn.3 0) (length-append c.loop-entry.yielded _) w.if-cell-self.false
      ];
    }

pub returns-clause-compared : goal.returns-clause-compared
returns-clause-compared c =
    let end = zip_end c.args.ledger.now c.args.values.now c.loop-entry.yielded c.into_iter-entry-iterator.result c.loop-entry.entry-iterator c.next.new.self c.next.result (search rules) (search rules) c.loop-entry.yielded_by c.in-None.is c.next.ensures.steps in
    compared_all c.requires c.loop-entry.invariant.so_far (omega (arith, end))
