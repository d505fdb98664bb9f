use Rattle.std.proofs.Common.{◌≤◌, ◌+◌, ◌*◌}
use Rattle.text.specs.StoredText.{Appends}
use Rattle.sheet_lines.specs.SheetLines.{cell_lines}
use Rattle.sheet_lines.proofs.put_cells.Given as goal

abbrev pub invariant-loop-cell : goal.invariant-loop-cell
invariant-loop-cell l =
    Appends l.initial.page (cell_lines l.columns l.cells.counts.now l.cells.means.now l.cells.qualities.now l.cell) l.page × (l.page.length ≤ l.initial.page.length + 105 * l.cell)
