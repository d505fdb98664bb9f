-- `sheet_lines::put_top` meets its contract. Assumes nothing.
use Rattle.sheet_lines.specs.SheetLines.{grid_word, gates_word, placed_word, top_lines}
use Rattle.text.proofs.StoredLaws.{appends_number, appends_next, line_last, line_before}
use Rattle.sheet_lines.proofs.put_top.Goals as goal

pub returns-clause-appended : goal.returns-clause-appended
unfolding grid_word gates_word placed_word top_lines
returns-clause-appended c =
    let columns = appends_number _ c.from.ensures c.number.ensures.appended in
    let rows = appends_number _ c.from-2.ensures c.number-2.ensures.appended in
    let first = line_before grid_word _ _ c.word.ensures (line_before _ _ _ columns (line_last _ rows)) in
    appends_next first (line_before gates_word _ _ c.word-2.ensures (line_before _ _ _ c.number-3.ensures.appended (line_before placed_word _ _ c.word-3.ensures (line_last _ c.number-4.ensures.appended))))
