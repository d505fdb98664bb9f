-- Document 02, T-01, refusals: the order of the checks of each operation of a sweep, but for 31. Assumes nothing.
use Rattle.std.specs.Prelude.{Bool, true, ◌&&◌, not, [], ◌∷◌, ℕ, ◌+◌, leb, length}
use Rattle.refusal.specs.Checks.{◌unless◌, first_refusal, ◌then◌}
use Rattle.tally.specs.LentSums.{Sums, Cells}
use Rattle.scan.specs.declared.head.ScanHead.{ScanHead}
use Rattle.scan.specs.LentLists.{Lists}
use Rattle.scan.specs.ScanRefusal.{scan_number}
use Rattle.sweep_checks.specs.RayGroup.{RayGroup}
use Rattle.sweep_checks.specs.SweepLengths.{sums_accepted, group_accepted, cells_accepted}

-- "19 for a closed state", "17 for azimuths past the count of rays announced": so many are taken, and so many are to be taken now
unfoldable pub state_number : ScanHead → Bool → ℕ → ℕ → ℕ
state_number head closed taken more =
    first_refusal (
    (19 unless not closed)
    ∷ (17 unless leb (taken + more) head.rays)
    ∷ [])

-- "1 to 6 on opening"
unfoldable pub open_number : ScanHead → Sums → ℕ
open_number head sums = scan_number head (sums_accepted head sums) true true

-- "19, then 17, then 1 to 5 for the numbers in the state, precede the rest": 6, 7 and 8, where the lists are told by what is accepted of them
unfoldable pub rays_number : ScanHead → Bool → ℕ → ℕ → Bool → Bool → Bool → ℕ
rays_number head closed taken more lengths azimuths qualities =
    state_number head closed taken more
    then scan_number head lengths azimuths qualities

-- the same of the lists
unfoldable pub take_number : ScanHead → Bool → ℕ → RayGroup → Lists → Bool → Bool → ℕ
take_number head closed taken group lists azimuths qualities =
    state_number head closed taken (length group.azimuths)
    then scan_number head (group_accepted head group lists && sums_accepted head lists.sums) azimuths qualities

-- "18 for closing early, then 6 there"
unfoldable pub close_number : ScanHead → Bool → ℕ → Sums → Cells → ℕ
close_number head closed taken sums cells =
    state_number head closed taken 0
    then scan_number head true true true
    then first_refusal (
    (18 unless leb head.rays taken)
    ∷ (6 unless (sums_accepted head sums && cells_accepted head cells))
    ∷ [])
