-- `c_answers::record::answer_read` meets its contract. Assumes nothing.
use mathlib.Core.Path.{ap, ◌∙◌}
use Rattle.std.proofs.Common.{rules}
use Rattle.c_structs.specs.Structs.{head_numbers}
use Rattle.c_answers.proofs.Told.{refused, done, as_it_was, as_due}
use Rattle.c_answers.proofs.record.answer_read.Goals as goal

pub returns-in_err-read_scan-clause-read : goal.returns-in_err-read_scan-clause-read
returns-in_err-read_scan-clause-read c =
    let refusal = c.in_err-read_scan.field-0.0 in
    let told = c.in_err-read_scan.ensures.read in
    refused _ _ refusal told.the_answer (search rules) (λ i. record { head = c.args.scan.now; lists = as_it_was _ _ _ _ _ refusal told.the_answer told.the_lists i })

pub returns-clause-read : goal.returns-clause-read
returns-clause-read c =
    let told = c.in_ok-read_scan.ensures.read in
    done _ _ _ told.the_answer (λ e i. record { head = (c.head_numbers.ensures ∙ ap head_numbers e) i; lists = as_due _ _ _ _ _ _ told.the_answer told.the_lists i })
