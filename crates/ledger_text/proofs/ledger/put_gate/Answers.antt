-- `ledger_text::ledger::put_gate` meets its contract. Assumes nothing.
use Rattle.text.proofs.StoredLaws.{appends_number, spaced_last, spaced_before}
use Rattle.ledger_text.proofs.ledger.put_gate.Goals as goal

pub returns-clause-appended : goal.returns-clause-appended
returns-clause-appended c =
    let azimuth = appends_number _ c.from.ensures c.number-3.ensures.appended in
    let range = appends_number _ c.from-2.ensures c.number-4.ensures.appended in
    let value = appends_number _ c.from-3.ensures c.number-5.ensures.appended in
    let quality = appends_number _ c.from-4.ensures c.number-6.ensures.appended in
    spaced_before _ _ c.number.ensures.appended (spaced_before _ _ c.number-2.ensures.appended (spaced_before _ _ azimuth (spaced_before _ _ range (spaced_before _ _ value (spaced_last _ quality)))))
