-- Document 02, T-01: what each operation of a sweep answers and leaves. Assumes nothing.
use Rattle.std.specs.Prelude.{true, false, ◌≡◌, ℕ, ◌+◌, length, Result}
use denote.Triple.Both.{Both}
use Rattle.refusal.specs.declared.numbered.Refusal.{Refusal}
use Rattle.refusal.specs.Answer.{answered, afterwards}
use Rattle.refusal.specs.Numbered.{answer_of}
use Rattle.tally.specs.LentSums.{Sums, Cells}
use Rattle.tally.specs.Tally.{cleared}
use Rattle.publish.specs.Publish.{published_cells}
use Rattle.scan.specs.declared.head.ScanHead.{ScanHead}
use Rattle.scan.specs.LentLists.{Lists}
use Rattle.sweep_checks.specs.RayGroup.{RayGroup}
use Rattle.sweep_checks.specs.SweepNumbers.{open_number, close_number}
use Rattle.accepted_take.specs.TakenLists.{taken_lists, take_refusal}
use Rattle.sweep.specs.declared.Sweep.{Sweep}

-- ---- opening: "Opening sets the sums to 0"

unfoldable pub open_refusal : ScanHead → Sums → ℕ
open_refusal head sums = open_number head sums

unfoldable pub opened : ScanHead → Sweep
opened head = record { head = head; taken = 0; closed = false }

pub record Opens (head : ScanHead) (sums : Both Sums Sums) (answer : Result Sweep Refusal) : Type 0 where
  pub the_answer : answer_of answer ≡ answered (open_refusal head sums.entry) (opened head)
  pub the_sums : sums.exit ≡ afterwards (open_refusal head sums.entry) sums.entry (cleared sums.entry)

-- ---- taking rays: the state counts them

unfoldable pub rays_refusal : Sweep → RayGroup → Lists → ℕ
rays_refusal sweep group lists = take_refusal sweep.head sweep.closed sweep.taken group lists

unfoldable pub counted : Sweep → RayGroup → Sweep
counted sweep group = record { head = sweep.head; taken = sweep.taken + length group.azimuths; closed = sweep.closed }

pub record Takes (sweep : Sweep) (group : RayGroup) (lists : Both Lists Lists) (answer : Result Sweep Refusal) : Type 0 where
  pub the_answer : answer_of answer ≡ answered (rays_refusal sweep group lists.entry) (counted sweep group)
  pub the_lists : lists.exit ≡ afterwards (rays_refusal sweep group lists.entry) lists.entry (taken_lists sweep.head sweep.taken group lists.entry)

-- ---- closing: "Closing publishes and ends the scan", in the weighting with which it was opened

unfoldable pub close_refusal : Sweep → Sums → Cells → ℕ
close_refusal sweep sums cells = close_number sweep.head sweep.closed sweep.taken sums cells

unfoldable pub ended : Sweep → Sweep
ended sweep = record { head = sweep.head; taken = sweep.taken; closed = true }

pub record Closes (sweep : Sweep) (sums : Sums) (cells : Both Cells Cells) (answer : Result Sweep Refusal) : Type 0 where
  pub the_answer : answer_of answer ≡ answered (close_refusal sweep sums cells.entry) (ended sweep)
  pub the_cells : cells.exit ≡ afterwards (close_refusal sweep sums cells.entry) cells.entry (published_cells sweep.head.weighting sums)
