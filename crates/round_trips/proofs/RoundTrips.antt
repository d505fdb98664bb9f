-- Document 01, "Scan record": the two round trips, of what the writer and the reader answer and leave. Assumes nothing.
use mathlib.Core.Path.{◌≡◌, refl, sym, ap, subst, ◌∙◌}
use mathlib.Core.List.{List, ◌++◌}
use Prim.Native.Nat.{ℕ, ◌<◌, ◌≤◌}
use denote.Triple.Both.{Both}
use lib.ListN.{length, get_or, take, drop}
use lib.Seq.{take-append_seam}
use Rattle.std.specs.Prelude.{Result, Ok}
use Rattle.refusal.specs.Answer.{gives}
use Rattle.refusal.specs.Numbered.{answer_of}
use Rattle.refusal.specs.declared.numbered.Refusal.{Refusal}
use Rattle.refusal.proofs.AnswerLaws.{given_is, is_given, filled_is}
use Rattle.scan.specs.declared.head.ScanHead.{ScanHead}
use Rattle.scan.specs.Scan.{Scan}
use Rattle.record_reader.specs.RecordRead.{lists_in, Reads}
use Rattle.record_writer.specs.RecordWritten.{buffer_with, Writes}
use Rattle.record_contents.specs.RecordBytes.{record_of}
use Rattle.record_layout.specs.RecordLists.{RecordLists}
use Rattle.record_layout.specs.RecordPlaces.{head_in, scan_in}
use Rattle.record_layout.specs.RecordRefusal.{read_refusal}
use Rattle.record_writer.specs.WriteRefusal.{write_refusal}
use Rattle.record_layout.proofs.AcceptedRecord.{read_accepted}
use Rattle.round_trips.proofs.ReadThenWrite.{read_then_write}
use Rattle.round_trips.proofs.WriteThenRead.{write_then_read}

-- a head with the lists that were read
abbrev pub scan_read : ScanHead → RecordLists → Scan
scan_read head lists = record { head = head; azimuths = lists.azimuths; values = lists.values; qualities = lists.qualities }

scan_in_lem : (bytes : List ℕ) → scan_read (head_in bytes) (lists_in bytes) ≡ scan_in bytes
unfolding lists_in scan_in
scan_in_lem bytes = refl

-- ---- written and read

-- lists of a scan's own lengths
pub record Fits (scan : Scan) (lists : RecordLists) : Type 0 where
  pub azimuths_length : length lists.azimuths ≡ length scan.azimuths
  pub values_length : length lists.values ≡ length scan.values
  pub qualities_length : length lists.qualities ≡ length scan.qualities

-- the reader answers the scan's head and leaves the scan's lists
pub record SameScan (scan : Scan) (answer : Result ScanHead Refusal) (lists : RecordLists) : Type 0 where
  pub same_head : answer_of answer ≡ gives scan.head
  pub same_scan : scan_read scan.head lists ≡ scan

-- what `write_scan` has written, `read_scan` reads back, whatever stood in the lists that are lent to it
pub written_is_read : (scan : Scan) (buffer : Both (List ℕ) (List ℕ)) (n : ℕ) → ((k : ℕ) → get_or scan.values k 0 < 65536) → Writes scan buffer (Ok n) → (lists : Both RecordLists RecordLists) → Fits scan lists.entry → (answer : Result ScanHead Refusal) → Reads (take n buffer.exit) lists answer → SameScan scan answer lists.exit
unfolding buffer_with
written_is_read scan buffer n small writing lists fits answer reading =
    let bytes = record_of scan in
    let known = given_is (write_refusal scan (length buffer.entry)) writing.the_answer in
    let after : buffer.exit ≡ bytes ++ drop (length bytes) buffer.entry = filled_is buffer.entry known.0 writing.the_buffer in
    let first : take n buffer.exit ≡ bytes =
    ap (λ (k : ℕ). take k buffer.exit) known.1 ∙ ap (take (length bytes)) after ∙ take-append_seam bytes (drop (length bytes) buffer.entry) in
    let back = write_then_read scan (length buffer.entry) small known.0 in
    let none : read_refusal bytes lists.entry ≡ 0 = back.lists_not_refused lists.entry fits.azimuths_length fits.values_length fits.qualities_length in
    let again : Reads bytes lists answer = subst (λ (l : List ℕ). Reads l lists answer) first reading in
    let same_head : head_in bytes ≡ scan.head = ap (λ (s : Scan). s.head) (scan_in_lem bytes ∙ back.same_scan) in
    record {
      same_head = again.the_answer ∙ sym (is_given none (sym same_head));
      same_scan =
          ap (λ (h : ScanHead). scan_read h lists.exit) (sym same_head)
          ∙ ap (scan_read (head_in bytes)) (filled_is lists.entry none again.the_lists)
          ∙ scan_in_lem bytes ∙ back.same_scan;
    }

-- ---- read and written

pub record SameBytes (bytes : List ℕ) (buffer : Both (List ℕ) (List ℕ)) (answer : Result ℕ Refusal) : Type 0 where
  pub same_length : answer_of answer ≡ gives (length bytes)
  pub same_bytes : buffer.exit ≡ bytes ++ drop (length bytes) buffer.entry

-- what `read_scan` has read, `write_scan` writes again as the same bytes into every buffer that has room for them
pub read_is_written : (bytes : List ℕ) → ((k : ℕ) → get_or bytes k 0 < 256) → (lists : Both RecordLists RecordLists) (head : ScanHead) → Reads bytes lists (Ok head) → (buffer : Both (List ℕ) (List ℕ)) → length bytes ≤ length buffer.entry → (answer : Result ℕ Refusal) → Writes (scan_read head lists.exit) buffer answer → SameBytes bytes buffer answer
unfolding buffer_with
read_is_written bytes small lists head reading buffer room answer writing =
    let known = given_is (read_refusal bytes lists.entry) reading.the_answer in
    let back = read_then_write bytes small (read_accepted bytes lists.entry known.0) in
    let none : write_refusal (scan_in bytes) (length buffer.entry) ≡ 0 = back.not_refused (length buffer.entry) room in
    let same_scan : scan_read head lists.exit ≡ scan_in bytes =
    ap (λ (h : ScanHead). scan_read h lists.exit) known.1
    ∙ ap (scan_read (head_in bytes)) (filled_is lists.entry known.0 reading.the_lists)
    ∙ scan_in_lem bytes in
    let again : Writes (scan_in bytes) buffer answer = subst (λ (s : Scan). Writes s buffer answer) same_scan writing in
    record {
      same_length = again.the_answer ∙ sym (is_given none (sym (ap length back.same_bytes)));
      same_bytes = filled_is buffer.entry none again.the_buffer ∙ ap (λ (l : List ℕ). l ++ drop (length l) buffer.entry) back.same_bytes;
    }
