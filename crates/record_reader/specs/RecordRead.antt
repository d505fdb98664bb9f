-- What the reader answers and leaves in the lent lists. Assumes nothing.
use Rattle.std.specs.Prelude.{List, Result, ◌≡◌, ℕ}
use denote.Triple.Both.{Both}
use Rattle.refusal.specs.Answer.{answered, afterwards}
use Rattle.refusal.specs.Numbered.{answer_of}
use Rattle.refusal.specs.declared.numbered.Refusal.{Refusal}
use Rattle.scan.specs.declared.head.ScanHead.{ScanHead}
use Rattle.record_layout.specs.RecordLists.{RecordLists}
use Rattle.record_layout.specs.RecordPlaces.{head_in, azimuths_in, values_in, qualities_in}
use Rattle.record_layout.specs.RecordRefusal.{read_refusal}

-- what the lists hold once they are filled
unfoldable pub lists_in : List ℕ → RecordLists
lists_in bytes = record { azimuths = azimuths_in bytes; values = values_in bytes; qualities = qualities_in bytes }

-- what is promised of any bytes and the lists that are lent for them
pub record Reads (bytes : List ℕ) (lists : Both RecordLists RecordLists) (answer : Result ScanHead Refusal) : Type 0 where
  pub the_answer : answer_of answer ≡ answered (read_refusal bytes lists.entry) (head_in bytes)
  pub the_lists : lists.exit ≡ afterwards (read_refusal bytes lists.entry) lists.entry (lists_in bytes)
