-- `c_scan_calls::tallied_scan::answer_tally` meets its contract, which is that of `scan_tally::tally`. Assumes nothing.
use Rattle.c_answers.proofs.Told.{number_told}
use Rattle.c_scan_calls.proofs.tallied_scan.answer_tally.Goals as goal

pub returns-clause-tallied : goal.returns-clause-tallied
returns-clause-tallied c =
    let told = rw c.head_of.ensures at c.tally.ensures.tallied in
    record { the_number = number_told _ _ _ told.the_answer; the_lent = told.the_lists }
