-- What is answered and left of what C lends, for a scan record that is read or written: each over a contract's parameters. Assumes nothing.
use Rattle.std.specs.Prelude.{List, ℕ, ℤ, length}
use denote.Triple.Both.{Both}
use Rattle.refusal.specs.Answer.{Answers}
use Rattle.scan.specs.Scan.{Scan}
use Rattle.record_contents.specs.RecordBytes.{record_of}
use Rattle.record_layout.specs.RecordPlaces.{head_in}
use Rattle.record_layout.specs.RecordRefusal.{head_refusal, read_refusal}
use Rattle.record_reader.specs.FieldPart.{field_place, field_part}
use Rattle.record_reader.specs.RecordRead.{lists_in}
use Rattle.record_writer.specs.RecordWritten.{buffer_with}
use Rattle.record_writer.specs.WriteRefusal.{write_refusal}
use Rattle.c_structs.specs.Structs.{head_numbers}
use Rattle.c_answers.specs.LentNumbers.{ScanNumbers, FieldNumbers, WrittenNumbers}

abbrev pub ReadsHead : List ℕ → Both (List ℤ) (List ℤ) → ℕ → Type 0
ReadsHead bytes lent answer = Answers (head_refusal bytes) (head_numbers (head_in bytes)) lent answer

abbrev pub ReadsScan : List ℕ → Both ScanNumbers ScanNumbers → ℕ → Type 0
ReadsScan bytes lent answer = Answers (read_refusal bytes lent.entry.lists) (record { head = head_numbers (head_in bytes); lists = lists_in bytes }) lent answer

abbrev pub FindsField : List ℕ → ℕ → Both FieldNumbers FieldNumbers → ℕ → Type 0
FindsField bytes number lent answer =
    Answers (head_refusal bytes) (record { start = field_place bytes number; size = length (field_part bytes number) }) lent answer

abbrev pub WritesRecord : Scan → Both WrittenNumbers WrittenNumbers → ℕ → Type 0
WritesRecord scan lent answer =
    Answers
    (write_refusal scan (length lent.entry.buffer))
    (record { buffer = buffer_with scan lent.entry.buffer; size = length (record_of scan) })
    lent answer
