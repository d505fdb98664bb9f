-- `sheet_lines::put_sheet` meets its contract. Assumes nothing.
use Rattle.std.proofs.Common.{ap, sym, ◌∙◌}
use Rattle.sheet_lines.specs.SheetLines.{top_lines, sheet_lines}
use Rattle.text.proofs.StoredLaws.{appends_same, appends_next}
use Rattle.sheet_lines.proofs.CellLines.{sum_places}
use Rattle.sheet_lines.proofs.put_sheet.Goals as goal

pub returns-clause-appended : goal.returns-clause-appended
unfolding sheet_lines
returns-clause-appended c =
    appends_next (appends_same (ap (top_lines _ _ _) (c.total.ensures ∙ sym (sum_places c.args.cells.counts.now))) c.put_top.ensures.appended) c.put_cells.ensures.appended
