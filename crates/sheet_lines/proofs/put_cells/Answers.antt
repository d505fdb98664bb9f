-- `sheet_lines::put_cells` meets its contract: the lines of the first cells stand behind what was there. Assumes nothing.
use Rattle.std.proofs.Common.{arith}
use Rattle.text.proofs.StoredLaws.{appends_none, appends_same, appends_next}
use Rattle.sheet_lines.specs.SheetLines.{cell_lines}
use Rattle.sheet_lines.proofs.CellLines.{cell_empty, cell_counted}
use Rattle.sheet_lines.proofs.put_cells.Goals as goal

pub loop-cell-init : goal.loop-cell-init
unfolding cell_lines
loop-cell-init c = (appends_none, omega arith)

pub loop-cell-preserved-then-count-eq0 : goal.loop-cell-preserved-then-count-eq0
loop-cell-preserved-then-count-eq0 c =
    let before = c.loop-cell.invariant in
    (appends_same (cell_empty _ _ _ _ c.loop-cell.cell c.if-count-eq0.true) before.0, omega (arith, before.1))

pub loop-cell-preserved : goal.loop-cell-preserved
loop-cell-preserved c =
    let put = c.put_cell.ensures in
    let before = c.loop-cell.invariant in (
      appends_same (cell_counted _ _ _ _ c.loop-cell.cell c.if-count-eq0.false) (appends_next before.0 put.appended),
      omega (arith, put.bounded, before.1),
    )
