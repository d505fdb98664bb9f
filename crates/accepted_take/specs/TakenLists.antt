-- Document 02, T-01 and T-02: a group's refusal, and what the lists hold once its rays are taken. Assumes nothing.
use Rattle.std.specs.Prelude.{Bool, cond, List, [], ◌∷◌, ◌≡◌, ℕ, ◌*◌}
use denote.Triple.Both.{Both}
use Rattle.std.proofs.lemmas.List.Edits.{sets}
use Rattle.arithmetic.specs.Places.{all_of}
use Rattle.refusal.specs.Checks.{◌unless◌, first_refusal, ◌then◌}
use Rattle.limits.specs.Accepted.{azimuth_accepted}
use Rattle.tally.specs.Tally.{added_sums}
use Rattle.tally.specs.Width.{fit_widths}
use Rattle.scan.specs.declared.head.ScanHead.{ScanHead}
use Rattle.scan.specs.LentLists.{Lists}
use Rattle.scan.specs.Rays.{regular_rays}
use Rattle.scan.specs.ScanRefusal.{quality_accepted}
use Rattle.scan_ledger.specs.ScanLedger.{ledger_of, marks_of}
use Rattle.sweep_checks.specs.RayGroup.{RayGroup}
use Rattle.sweep_checks.specs.SweepNumbers.{take_number}

-- the group's own ledger, and its own marks
abbrev pub group_ledger : ScanHead → RayGroup → List ℕ
group_ledger head group = ledger_of head (regular_rays head.gates group.azimuths)

abbrev pub group_marks : ScanHead → RayGroup → List ℕ
group_marks head group = marks_of head (regular_rays head.gates group.azimuths)

-- entries and marks of just these rays, behind those that were taken before; the sums with just these gates added
unfoldable pub taken_lists : ScanHead → ℕ → RayGroup → Lists → Lists
taken_lists head taken group lists = record {
  ledger = sets lists.ledger (taken * head.gates) (group_ledger head group);
  marks = sets lists.marks (taken * head.gates) (group_marks head group);
  sums = added_sums (group_ledger head group) group.values group.qualities lists.sums;
}

-- 19, 17, 1 to 8
unfoldable pub take_checks : ScanHead → Bool → ℕ → RayGroup → Lists → ℕ
take_checks head closed taken group lists =
    take_number head closed taken group lists (all_of azimuth_accepted group.azimuths) (all_of quality_accepted group.qualities)

-- "last, 31 for a ray by which a count or quality sum would pass 32 bits or a value sum 64", either of the two
unfoldable pub take_refusal : ScanHead → Bool → ℕ → RayGroup → Lists → ℕ
take_refusal head closed taken group lists =
    take_checks head closed taken group lists
    then first_refusal ((31 unless fit_widths (taken_lists head taken group lists).sums) ∷ [])

-- a group that is not refused before 31: taken whole, or nothing is changed
pub record TakesGroup (head : ScanHead) (taken : ℕ) (group : RayGroup) (lists : Both Lists Lists) (answer : Bool) : Type 0 where
  pub the_answer : answer ≡ fit_widths (taken_lists head taken group lists.entry).sums
  pub the_lists : lists.exit ≡ cond answer (taken_lists head taken group lists.entry) lists.entry
