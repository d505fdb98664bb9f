-- `ledger_text::place::put_place` meets its contract. Assumes nothing.
use Rattle.std.proofs.Common.{◌≡◌, arith, rules, sym, ap, ◌∙◌}
use Rattle.placement.specs.Gate.{mark_number}
use Rattle.text.specs.RefusedLine.{refused_line}
use Rattle.text.proofs.StoredLaws.{appends_number, line_last, spaced_next, spaced_then_line}
use Rattle.ledger_text.specs.LedgerLine.{placement_words}
use Rattle.ledger_text.specs.PlacedColumns.{columns_there}
use Rattle.ledger_text.proofs.place.put_place.Goals as goal

pub put_cell-requires : goal.put_cell-requires
unfolding columns_there
put_cell-requires c =
    (ap (columns_there c.args.columns) (sym c.in-Ok.is) ∙ c.requires.0, omega (arith, c.requires.1, c.put_position.ensures.bounded, c.put_position.ensures.appended.same_length))

pub returns-in-Ok-clause-appended : goal.returns-in-Ok-clause-appended
unfolding placement_words
returns-in-Ok-clause-appended c =
    let mark : c.from.result ≡ mark_number c.in-Ok.placement.mark = search rules in
    rw c.in-Ok.is (spaced_then_line _ _ _ (spaced_next _ _ c.put_position.ensures.appended c.put_cell.ensures.appended) (line_last _ (appends_number _ mark c.number.ensures.appended)))

pub returns-in-Err-clause-appended : goal.returns-in-Err-clause-appended
unfolding placement_words refused_line
returns-in-Err-clause-appended c = rw c.in-Err.is (rw c.number-in-Err.ensures at c.refused.ensures.appended)
