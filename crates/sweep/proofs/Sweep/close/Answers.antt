-- `sweep::Sweep::close` meets its contract: a refused closing leaves the cells, an accepted one publishes them. Assumes nothing.
use mathlib.Core.Path.{◌≡◌, refl, sym}
use Rattle.std.proofs.Common.{rules}
use Rattle.std.specs.Prelude.{Err}
use Rattle.refusal.proofs.AnswerLaws.{filled}
use Rattle.refusal.proofs.NumberedLaws.{answers_value, answers_refusal, leaves_lent}
use Rattle.sweep.specs.SweepOperations.{close_refusal, ended}
use Rattle.sweep.proofs.ClosedSweep.{accepted_close, publishable}
use Rattle.sweep.proofs.Sweep.close.Goals as goal

pub returns-in_err-check_close-clause-closes : goal.returns-in_err-check_close-clause-closes
unfolding close_refusal
returns-in_err-check_close-clause-closes c =
    let refusal = c.in_err-check_close in
    let is : c.from_residual.result ≡ Err refusal.field-0.0 = search rules in
    record { the_answer = rw is (answers_refusal refusal.field-0.0 _ refusal.ensures); the_cells = leaves_lent refusal.field-0.0 _ _ refusal.ensures }

pub publish_cells-requires : goal.publish_cells-requires
publish_cells-requires c = publishable (accepted_close _ _ _ _ _ (sym c.in_ok-check_close.ensures))

pub returns-clause-closes : goal.returns-clause-closes
unfolding close_refusal ended
returns-clause-closes c =
    let none = sym c.in_ok-check_close.ensures in
    record { the_answer = answers_value none refl; the_cells = filled _ none c.publish_cells.ensures.the_cells }
