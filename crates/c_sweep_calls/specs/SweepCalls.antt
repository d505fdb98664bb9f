-- What is answered and left of what C lends, for each operation of a sweep: each over a contract's parameters. Assumes nothing.
use Rattle.std.specs.Prelude.{ℕ}
use denote.Triple.Both.{Both}
use Rattle.refusal.specs.Answer.{Answers}
use Rattle.tally.specs.LentSums.{Sums, Cells}
use Rattle.tally.specs.Tally.{cleared}
use Rattle.publish.specs.Publish.{published_cells}
use Rattle.scan.specs.declared.head.ScanHead.{ScanHead}
use Rattle.scan.specs.LentLists.{Lists}
use Rattle.sweep_checks.specs.RayGroup.{RayGroup}
use Rattle.accepted_take.specs.TakenLists.{taken_lists}
use Rattle.sweep.specs.SweepOperations.{open_refusal, opened, rays_refusal, counted, close_refusal, ended}
use Rattle.c_answers.specs.LentNumbers.{LentStruct}
use Rattle.c_sweep.specs.SweepStruct.{sweep_of, sweep_numbers}
use Rattle.c_sweep.specs.LentSweep.{with_sweep}

abbrev pub OpensSweep : ScanHead → Both Sums Sums → LentStruct → ℕ → Type 0
OpensSweep head sums sweep answer =
    Answers (open_refusal head sums.entry) (record { sweep = sweep_numbers (opened head); lists = cleared sums.entry }) (with_sweep sweep sums) answer

abbrev pub TakesRays : LentStruct → RayGroup → Both Lists Lists → ℕ → Type 0
TakesRays sweep group lists answer =
    let state = sweep_of sweep.entry.now in
    Answers
    (rays_refusal state group lists.entry)
    (record { sweep = sweep_numbers (counted state group); lists = taken_lists state.head state.taken group lists.entry })
    (with_sweep sweep lists) answer

abbrev pub ClosesSweep : LentStruct → Sums → Both Cells Cells → ℕ → Type 0
ClosesSweep sweep sums cells answer =
    let state = sweep_of sweep.entry.now in
    Answers
    (close_refusal state sums cells.entry)
    (record { sweep = sweep_numbers (ended state); lists = published_cells state.head.weighting sums })
    (with_sweep sweep cells) answer
