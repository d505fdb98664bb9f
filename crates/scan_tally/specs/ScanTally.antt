-- Document 02, T-05: what is answered of a scan that is tallied, and what its lists hold afterwards. Assumes nothing.
use Rattle.std.specs.Prelude.{◌≡◌, Result}
use denote.Triple.Both.{Both}
use Rattle.refusal.specs.Answer.{answered, afterwards}
use Rattle.refusal.specs.Numbered.{answer_of}
use Rattle.refusal.specs.declared.numbered.Refusal.{Refusal}
use Rattle.scan.specs.LentLists.{Lists}
use Rattle.scan.specs.Scan.{Scan}
use Rattle.scan.specs.ScanRefusal.{refusal_for}
use Rattle.accepted_tally.specs.TalliedLists.{tallied_lists}

-- what is promised of every scan and the lists that are lent for it
pub record Tallies (scan : Scan) (lists : Both Lists Lists) (answer : Result (Unit {0}) Refusal) : Type 0 where
  pub the_answer : answer_of answer ≡ answered (refusal_for scan lists.entry) tt
  pub the_lists : lists.exit ≡ afterwards (refusal_for scan lists.entry) lists.entry (tallied_lists scan)
