-- `sweep::Sweep::open` meets its contract: a refused opening leaves the sums, an accepted one clears them. Assumes nothing.
use mathlib.Core.Path.{◌≡◌, refl, sym}
use Rattle.std.proofs.Common.{rules}
use Rattle.std.specs.Prelude.{Err}
use Rattle.refusal.proofs.AnswerLaws.{filled}
use Rattle.refusal.proofs.NumberedLaws.{answers_value, answers_refusal, leaves_lent}
use Rattle.sweep.specs.SweepOperations.{open_refusal, opened}
use Rattle.sweep.proofs.Sweep.open.Goals as goal

pub returns-in_err-check_open-clause-opens : goal.returns-in_err-check_open-clause-opens
unfolding open_refusal
returns-in_err-check_open-clause-opens c =
    let refusal = c.in_err-check_open in
    let is : c.from_residual.result ≡ Err refusal.field-0.0 = search rules in
    record { the_answer = rw is (answers_refusal refusal.field-0.0 _ refusal.ensures); the_sums = leaves_lent refusal.field-0.0 _ _ refusal.ensures }

pub returns-clause-opens : goal.returns-clause-opens
unfolding open_refusal opened
returns-clause-opens c =
    let none = sym c.in_ok-check_open.ensures in
    record { the_answer = answers_value none refl; the_sums = filled _ none c.clear.ensures.emptied }
