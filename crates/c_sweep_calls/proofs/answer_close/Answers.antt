-- `c_sweep_calls::answer_close` meets its contract, which is that of `sweep::Sweep::close`. Assumes nothing.
use mathlib.Core.Path.{ap, ◌∙◌}
use Rattle.std.proofs.Common.{rules}
use Rattle.c_answers.proofs.Told.{refused, done, as_it_was, as_due}
use Rattle.c_sweep.specs.SweepStruct.{sweep_numbers}
use Rattle.c_sweep_calls.proofs.answer_close.Goals as goal

pub returns-in_err-close-clause-closes : goal.returns-in_err-close-clause-closes
returns-in_err-close-clause-closes c =
    let refusal = c.in_err-close.field-0.0 in
    let told = rw c.sweep_of-state.ensures at c.in_err-close.ensures.closes in
    refused _ _ refusal told.the_answer (search rules) (λ i. record { sweep = c.args.sweep.now; lists = as_it_was _ _ _ _ _ refusal told.the_answer told.the_cells i })

pub returns-clause-closes : goal.returns-clause-closes
returns-clause-closes c =
    let told = rw c.sweep_of-state.ensures at c.in_ok-close.ensures.closes in
    done _ _ _ told.the_answer (λ e i. record { sweep = (c.sweep_numbers.ensures ∙ ap sweep_numbers e) i; lists = as_due _ _ _ _ _ _ told.the_answer told.the_cells i })
