-- `accepted_tally::accepted_tally` meets its contract, step by step: survey, ledger and marks, sums of the gates. Assumes nothing.
use mathlib.Core.Path.{refl, ap, ◌∙◌}
use Rattle.std.proofs.Common.{rules}
use Rattle.tally.specs.LentSums.{Sums}
use Rattle.scan.proofs.AcceptedScan.{accepted_scan}
use Rattle.accepted_tally.proofs.AcceptedTally.{rays_span, ledger_stored, marks_stored, addable, sums_are, lists_are}
use Rattle.accepted_tally.proofs.accepted_tally.Goals as goal

pub survey_of-survey-requires : goal.survey_of-survey-requires
survey_of-survey-requires c = let g = accepted_scan _ _ c.requires in (g.site, g.grid)

pub scan_ledger-requires : goal.scan_ledger-requires
scan_ledger-requires c =
    let good = accepted_scan _ _ c.requires in
    rays_span good

pub sum_gates-requires : goal.sum_gates-requires
sum_gates-requires c =
    let good = accepted_scan _ _ c.requires in
    let ledger_written = rw c.survey_of-survey.ensures at c.scan_ledger.ensures.entries ∙ ledger_stored good in
    addable good ledger_written

pub returns-clause-tallied : goal.returns-clause-tallied
returns-clause-tallied c =
    let good = accepted_scan _ _ c.requires in
    let ledger_written = rw c.survey_of-survey.ensures at c.scan_ledger.ensures.entries ∙ ledger_stored good in
    let marks_written = rw c.survey_of-survey.ensures at c.scan_ledger.ensures.marks ∙ marks_stored good in
    let sums_written = sums_are good ledger_written c.fit_16_bits.ensures refl c.sum_gates.ensures.added in
    lists_are (search (rules, ledger_written)) (search (rules, marks_written)) (search (rules, ap (λ (s : Sums). s.counts) sums_written)) (search (rules, ap (λ (s : Sums). s.quality_sums) sums_written)) (search (rules, ap (λ (s : Sums). s.value_sums) sums_written)) (search (rules, ap (λ (s : Sums). s.weighted_sums) sums_written))
