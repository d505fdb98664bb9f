-- What a tally answers and leaves, of a scan that is refused and of one that is not. Assumes nothing.
use mathlib.Core.Path.{◌≡◌, refl, sym}
use mathlib.Core.Bool.{true≢false}
use denote.Triple.Both.{Both}
use Rattle.std.proofs.Common.{Result, Ok, Err}
use Rattle.std.specs.Result.{IsErr}
use Rattle.refusal.specs.declared.numbered.Refusal.{Refusal}
use Rattle.refusal.specs.Numbered.{refusal_in}
use Rattle.refusal.proofs.AnswerLaws.{filled}
use Rattle.refusal.proofs.NumberedLaws.{answers_value, answers_refusal, leaves_lent}
use Rattle.scan.specs.LentLists.{Lists}
use Rattle.scan.specs.Scan.{Scan}
use Rattle.scan.specs.ScanRefusal.{refusal_for}
use Rattle.accepted_tally.specs.TalliedLists.{tallied_lists}
use Rattle.scan_tally.specs.ScanTally.{Tallies}

module _ {scan : Scan} {lists : Both Lists Lists} where
  pub scan_refused : (answer : Result (Unit {0}) Refusal) → IsErr answer → refusal_in answer ≡ refusal_for scan lists.entry → lists.exit ≡ lists.entry → Tallies scan lists answer
  scan_refused (Ok value) wrong e same = absurd (true≢false (sym wrong))
  scan_refused (Err refusal) wrong e same = record { the_answer = answers_refusal refusal tt e; the_lists = rw same (leaves_lent refusal lists.entry (tallied_lists scan) e) }

  pub scan_tallied : 0 ≡ refusal_for scan lists.entry → lists.exit ≡ tallied_lists scan → Tallies scan lists (Ok tt)
  scan_tallied e tallied = record { the_answer = answers_value (sym e) refl; the_lists = filled _ (sym e) tallied }
