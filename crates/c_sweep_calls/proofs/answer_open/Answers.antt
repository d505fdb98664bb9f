-- `c_sweep_calls::answer_open` meets its contract, which is that of `sweep::Sweep::open`. Assumes nothing.
use mathlib.Core.Path.{ap, ◌∙◌}
use Rattle.std.proofs.Common.{rules}
use Rattle.c_answers.proofs.Told.{refused, done, as_it_was, as_due}
use Rattle.c_sweep.specs.SweepStruct.{sweep_numbers}
use Rattle.c_sweep_calls.proofs.answer_open.Goals as goal

pub returns-in_err-open-clause-opens : goal.returns-in_err-open-clause-opens
returns-in_err-open-clause-opens c =
    let refusal = c.in_err-open.field-0.0 in
    let told = rw c.head_of.ensures at c.in_err-open.ensures.opens in
    refused _ _ refusal told.the_answer (search rules) (λ i. record { sweep = c.args.sweep.now; lists = as_it_was _ _ _ _ _ refusal told.the_answer told.the_sums i })

pub returns-clause-opens : goal.returns-clause-opens
returns-clause-opens c =
    let told = rw c.head_of.ensures at c.in_ok-open.ensures.opens in
    done _ _ _ told.the_answer (λ e i. record { sweep = (c.sweep_numbers.ensures ∙ ap sweep_numbers e) i; lists = as_due _ _ _ _ _ _ told.the_answer told.the_sums i })
