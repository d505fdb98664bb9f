-- `gate_text::gate::put_placement` meets its contract. Assumes nothing.
use Rattle.std.proofs.Common.{◌≡◌, arith, rules, sym, ap, ◌∙◌}
use borrow.Author.Tests.{leb-true}
use Rattle.placement.specs.Gate.{mark_number}
use Rattle.gate_text.specs.GateText.{inside_word, placed_words}
use Rattle.ledger_text.specs.LedgerLine.{outside_word}
use Rattle.ledger_text.specs.PlacedColumns.{cell_there}
use Rattle.text.proofs.StoredLaws.{appends_number, line_last, spaced_last, spaced_next, spaced_then_line}
use Rattle.gate_text.proofs.gate.put_placement.Goals as goal

pub put_column_and_row-requires : goal.put_column_and_row-requires
unfolding cell_there
put_column_and_row-requires c =
    let word = c.field.ensures in
    let position = c.put_position.ensures in
    (leb-true 1 _ (ap (cell_there c.args.columns) (sym c.in-Some.is) ∙ c.requires.0), omega (arith, word.stored.the_end, word.same_length, position.bounded, position.appended.same_length, c.requires.1))

pub returns-in-Some-clause-appended : goal.returns-in-Some-clause-appended
unfolding placed_words inside_word
returns-in-Some-clause-appended c =
    let mark : c.from-mark.result ≡ mark_number c.args.placement.mark = search rules in
    let position = spaced_next _ _ (spaced_last inside_word c.field.ensures) c.put_position.ensures.appended in
    let place = spaced_next _ _ position c.put_column_and_row.ensures.appended in
    let cell = spaced_next _ _ place (spaced_last _ (appends_number _ c.from.ensures c.number.ensures.appended)) in
    rw c.in-Some.is (spaced_then_line _ _ _ cell (line_last _ (appends_number _ mark c.number-in-Some.ensures.appended)))

pub returns-in-None-clause-appended : goal.returns-in-None-clause-appended
unfolding placed_words outside_word
returns-in-None-clause-appended c =
    let mark : c.from-mark.result ≡ mark_number c.args.placement.mark = search rules in
    let position = spaced_next _ _ (spaced_last outside_word c.field-in-None.ensures) c.put_position-in-None.ensures.appended in
    rw c.in-None.is (spaced_then_line _ _ _ position (line_last _ (appends_number _ mark c.number-in-None.ensures.appended)))
