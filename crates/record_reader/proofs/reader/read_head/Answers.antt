-- `record_reader::reader::read_head` meets its contract. Assumes nothing.
use mathlib.Core.Path.{◌≡◌, sym, ◌∙◌}
use Rattle.std.proofs.Common.{rules, Err}
use Rattle.refusal.specs.Numbered.{answer_of}
use Rattle.refusal.proofs.NumberedLaws.{answers_value, answers_refusal}
use Rattle.record_layout.specs.RecordRefusal.{head_refusal}
use Rattle.record_reader.proofs.reader.read_head.Goals as goal

pub returns-in_err-check_record : goal.returns-in_err-check_record
unfolding head_refusal
returns-in_err-check_record c =
    let refusal = c.in_err-check_record.field-0.0 in
    let same : answer_of c.from_residual.result ≡ answer_of (Err refusal) = search rules in
    same ∙ answers_refusal refusal _ c.in_err-check_record.ensures

pub returns : goal.returns
unfolding head_refusal
returns c = answers_value (sym c.in_ok-check_record.ensures) c.head_in.ensures
