-- `ledger_text::place::put_column_and_row` meets its contract. Assumes nothing.
use Rattle.text.proofs.StoredLaws.{appends_number, spaced_last, spaced_before}
use Rattle.ledger_text.proofs.place.put_column_and_row.Goals as goal

pub returns-clause-appended : goal.returns-clause-appended
returns-clause-appended c =
    spaced_before _ _ (appends_number _ c.from.ensures c.number.ensures.appended) (spaced_last _ (appends_number _ c.from-2.ensures c.number-2.ensures.appended))
