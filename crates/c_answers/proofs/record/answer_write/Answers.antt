-- `c_answers::record::answer_write` meets its contract. Assumes nothing.
use Rattle.std.proofs.Common.{rules}
use Rattle.c_answers.proofs.Told.{refused, done, as_it_was, as_due}
use Rattle.c_answers.proofs.record.answer_write.Goals as goal

pub returns-in_err-size : goal.returns-in_err-size
returns-in_err-size c =
    let refusal = c.in_err-size.field-0.0 in
    let told = rw c.head_of.ensures at c.in_err-size.ensures in
    refused _ _ refusal told.the_answer (search rules) (λ i. record { buffer = as_it_was _ _ _ _ _ refusal told.the_answer told.the_buffer i; size = c.args.size.now })

pub returns : goal.returns
returns c =
    let told = rw c.head_of.ensures at c.in_ok-size.ensures in
    done _ _ _ told.the_answer (λ e i. record { buffer = as_due _ _ _ _ _ _ told.the_answer told.the_buffer i; size = e i })
