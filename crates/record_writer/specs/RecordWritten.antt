-- What the writer answers and leaves: it answers the record's length and touches nothing past its end. Assumes nothing.
use Rattle.std.specs.Prelude.{List, Result, ◌++◌, ◌≡◌, ℕ, length, drop}
use denote.Triple.Both.{Both}
use Rattle.refusal.specs.Answer.{answered, afterwards}
use Rattle.refusal.specs.Numbered.{answer_of}
use Rattle.refusal.specs.declared.numbered.Refusal.{Refusal}
use Rattle.scan.specs.Scan.{Scan}
use Rattle.record_contents.specs.RecordBytes.{record_of}
use Rattle.record_writer.specs.WriteRefusal.{write_refusal}

-- the record, and behind it what stood there
unfoldable pub buffer_with : Scan → List ℕ → List ℕ
buffer_with scan buffer = record_of scan ++ drop (length (record_of scan)) buffer

-- what is promised of every scan and every buffer
pub record Writes (scan : Scan) (buffer : Both (List ℕ) (List ℕ)) (answer : Result ℕ Refusal) : Type 0 where
  pub the_answer : answer_of answer ≡ answered (write_refusal scan (length buffer.entry)) (length (record_of scan))
  pub the_buffer : buffer.exit ≡ afterwards (write_refusal scan (length buffer.entry)) buffer.entry (buffer_with scan buffer.entry)
