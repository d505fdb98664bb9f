-- `sheet_lines::put_cell` meets its contract. Assumes nothing.
use Rattle.sheet_lines.specs.SheetLines.{cell_line}
use Rattle.text.proofs.StoredLaws.{appends_number, line_last, line_before}
use Rattle.sheet_lines.proofs.put_cell.Goals as goal

pub returns-clause-appended : goal.returns-clause-appended
unfolding cell_line
returns-clause-appended c =
    let mean = appends_number _ c.from.ensures c.number-3.ensures.appended in
    let quality = appends_number _ c.from-2.ensures c.number-4.ensures.appended in
    let count = appends_number _ c.from-3.ensures c.number-5.ensures.appended in
    line_before _ _ _ c.number.ensures.appended (line_before _ _ _ c.number-2.ensures.appended (line_before _ _ _ mean (line_before _ _ _ quality (line_last _ count))))
