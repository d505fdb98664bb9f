-- `ledger_text::place::put_cell` meets its contract. Assumes nothing.
use Rattle.std.proofs.Common.{sym, ap, ◌∙◌}
use borrow.Author.Tests.{leb-true}
use Rattle.text.proofs.StoredLaws.{spaced_last}
use Rattle.ledger_text.specs.LedgerLine.{outside_word, cell_words}
use Rattle.ledger_text.specs.PlacedColumns.{cell_there}
use Rattle.ledger_text.proofs.place.put_cell.Goals as goal

pub put_column_and_row-requires : goal.put_column_and_row-requires
unfolding cell_there
put_column_and_row-requires c = (leb-true 1 _ (ap (cell_there c.args.columns) (sym c.in-Some.is) ∙ c.requires.0), c.requires.1)

pub returns-in-Some-clause-appended : goal.returns-in-Some-clause-appended
unfolding cell_words
returns-in-Some-clause-appended c = rw c.in-Some.is c.put_column_and_row.ensures.appended

pub returns-in-None-clause-appended : goal.returns-in-None-clause-appended
unfolding cell_words outside_word
returns-in-None-clause-appended c = rw c.in-None.is (spaced_last outside_word c.field.ensures)
