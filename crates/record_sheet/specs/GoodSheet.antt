-- Document 01, "The sheet program": the sheet of a good record. Assumes nothing.
use Rattle.std.specs.Prelude.{List, ℕ}
use Rattle.grid.specs.Window.{window_of}
use Rattle.scan.specs.Scan.{gates_of}
use Rattle.scan_laws.specs.Placed.{placed_of}
use Rattle.scan_laws.specs.TallyPublished.{scan_cells}
use Rattle.accepted_tally.specs.TalliedLists.{tallied_lists}
use Rattle.record_layout.specs.RecordPlaces.{head_in, scan_in}
use Rattle.sheet_lines.specs.SheetLines.{sheet_lines}

-- columns and rows, gates, the measured ones that lie inside, and the cells, published in the record's weighting
unfoldable pub good_sheet : List ℕ → List ℕ
good_sheet bytes =
    let cells = scan_cells (head_in bytes).weighting (scan_in bytes) in
    sheet_lines (window_of (head_in bytes).grid).columns (window_of (head_in bytes).grid).rows (gates_of (head_in bytes))
    (placed_of (scan_in bytes)) (tallied_lists (scan_in bytes)).sums.counts cells.means cells.qualities
