-- `c_answers::record::answer_field` meets its contract. Assumes nothing.
use mathlib.Core.Path.{refl, ap, ◌∙◌}
use Rattle.std.proofs.Common.{rules, length}
use Rattle.refusal.proofs.AnswerLaws.{given_is}
use Rattle.record_reader.proofs.FieldParts.{place_of_content}
use Rattle.c_answers.proofs.Told.{refused, done}
use Rattle.c_answers.proofs.record.answer_field.Goals as goal

pub returns-in_err-read_head : goal.returns-in_err-read_head
returns-in_err-read_head c = refused _ _ c.in_err-read_head.field-0.0 c.in_err-read_head.ensures (search rules) refl

pub returns : goal.returns
returns c = let told = c.in_ok-read_head.ensures in done _ _ _ told (λ _ i. record {
  start = (c.field_place.ensures ∙ place_of_content _ _ (given_is _ told).0) i;
  size = ap length c.field.ensures.result_value i;
})
