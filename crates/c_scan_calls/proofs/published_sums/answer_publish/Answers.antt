-- `c_scan_calls::published_sums::answer_publish` meets its contract, which is that of `publish::publish`. Assumes nothing.
use mir.Facts.{to_z-of_z}
use Rattle.c_answers.proofs.Told.{number_told}
use Rattle.c_scan_calls.proofs.published_sums.answer_publish.Goals as goal

pub returns-clause-published : goal.returns-clause-published
returns-clause-published c =
    let asked = simp (to_z-of_z, c.ranges.weighting) at c.weighting_of.ensures in
    let told = rw asked at c.publish.ensures.published in
    record { the_number = number_told _ _ _ told.the_answer; the_lent = told.the_cells }
