-- `record_writer::writer::write_scan` meets its contract: a refusal leaves the buffer, otherwise the record stands at its start. Assumes nothing.
use mathlib.Core.Path.{◌≡◌, sym, ◌∙◌}
use Rattle.std.proofs.Common.{rules, Err}
use Rattle.refusal.specs.Numbered.{number_of, answer_of}
use Rattle.refusal.proofs.AnswerLaws.{kept, filled}
use Rattle.refusal.proofs.NumberedLaws.{numbered, answers_value, answers_refusal}
use lib.ListN.{length}
use Rattle.scan.specs.Scan.{scan_of}
use Rattle.record_writer.specs.WriteRefusal.{write_refusal}
use Rattle.record_writer.proofs.WriterAccepted.{writable, size_known, record_placed}
use Rattle.record_writer.proofs.writer.write_scan.Goals as goal

pub returns-in_err-check_write : goal.returns-in_err-check_write
returns-in_err-check_write c =
    let refusal = c.in_err-check_write.field-0.0 in
    let number : number_of refusal ≡ write_refusal (scan_of c.args.head c.args.rays) (length c.args.buffer.now) = search rules in
    let same : answer_of c.from_residual.result ≡ answer_of (Err refusal) = search rules in
    record {
      the_answer = same ∙ answers_refusal refusal _ number;
      the_buffer = kept _ _ _ (λ e. numbered refusal (number ∙ e));
    }

pub put_record-requires : goal.put_record-requires
put_record-requires c = search (rules, writable)

pub record_length-requires : goal.record_length-requires
record_length-requires c =
    let zero : write_refusal (scan_of c.args.head c.args.rays) (length c.args.buffer.now) ≡ 0 = search rules in
    (writable _ _ zero).gates_most

pub returns : goal.returns
returns c =
    let zero : write_refusal (scan_of c.args.head c.args.rays) (length c.args.buffer.now) ≡ 0 = search rules in
    record {
      the_answer = answers_value zero (c.record_length.ensures ∙ sym (size_known _ _ zero));
      the_buffer = filled _ zero (record_placed _ _ zero c.put_record.ensures);
    }
