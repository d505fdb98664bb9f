-- `c_answers::record::answer_head` meets its contract. Assumes nothing.
use mathlib.Core.Path.{refl, ap, ◌∙◌}
use Rattle.std.proofs.Common.{rules}
use Rattle.c_structs.specs.Structs.{head_numbers}
use Rattle.c_answers.proofs.Told.{refused, done}
use Rattle.c_answers.proofs.record.answer_head.Goals as goal

pub returns-in_err-read_head : goal.returns-in_err-read_head
returns-in_err-read_head c = refused _ _ c.in_err-read_head.field-0.0 c.in_err-read_head.ensures (search rules) refl

pub returns : goal.returns
returns c = done _ _ _ c.in_ok-read_head.ensures (λ e. c.head_numbers.ensures ∙ ap head_numbers e)
