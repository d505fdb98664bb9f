-- `record_sheet::cells_text` meets its contract: read, tallied, published, printed. Assumes nothing.
use mathlib.Core.Path.{sym, ap, subst, ◌∙◌}
use native.Mathlib.Omega.{arith}
use lib.ListN.{length}
use Rattle.tally.specs.LentSums.{Sums, cells_in}
use Rattle.publish.specs.Publication.{Publishes}
use Rattle.scan.specs.LentLists.{lists_in}
use Rattle.scan.specs.Scan.{scan_held, cells_of}
use Rattle.record_sheet.proofs.GoodRecord.{grid_good, columns_least, cells_done, counts_length, means_length, cell_qualities_length, is_sheet}
use Rattle.text.proofs.StoredLaws.{appends_same}
use Rattle.record_sheet.proofs.cells_text.Goals as goal

pub window_of-window-requires : goal.window_of-window-requires
window_of-window-requires c = grid_good c.requires.0

pub put_sheet-requires : goal.put_sheet-requires
put_sheet-requires c =
    let a = c.args in
    let given = c.as_ref-read.ensures in
    let tallied = rw (given.azimuths, given.values, given.qualities) at c.tally.ensures.tallied in
    let published = subst (λ (s : Sums). Publishes a.head.weighting s (record { entry = cells_in a.cells.now; exit = cells_in c.publish.new.cells }) c.publish.result) c.sums_of-sums.ensures c.publish.ensures.published in
    let cells = cells_done (scan_held a.head a.rays.now.azimuths.now a.rays.now.values.now a.rays.now.qualities.now) (lists_in a.lists.now) c.requires.0 c.requires.1 c.requires.2 (rw given.values at c.fit_16_bits.ensures) c.read_scan.ensures.read tallied published in
    let counts_are = c.published.ensures.counts ∙ ap (λ (s : Sums). s.counts) c.sums_of-sums.ensures in
    let counts = ap length counts_are ∙ counts_length _ cells.the_sums in (
      rw c.window_of-window.ensures (columns_least c.requires.0),
      record {
        at_most = omega (arith, counts, ap cells_of c.requires.0.is_head, c.requires.0.cells_most);
        means = ap length c.published.ensures.means ∙ means_length _ cells.the_cells ∙ sym counts;
        qualities = ap length c.published.ensures.qualities ∙ cell_qualities_length _ cells.the_cells ∙ sym counts;
      },
      c.requires.3,
    )

pub returns-clause-appended : goal.returns-clause-appended
returns-clause-appended c =
    let a = c.args in
    let given = c.as_ref-read.ensures in
    let tallied = rw (given.azimuths, given.values, given.qualities) at c.tally.ensures.tallied in
    let published = subst (λ (s : Sums). Publishes a.head.weighting s (record { entry = cells_in a.cells.now; exit = cells_in c.publish.new.cells }) c.publish.result) c.sums_of-sums.ensures c.publish.ensures.published in
    let cells = cells_done (scan_held a.head a.rays.now.azimuths.now a.rays.now.values.now a.rays.now.qualities.now) (lists_in a.lists.now) c.requires.0 c.requires.1 c.requires.2 (rw given.values at c.fit_16_bits.ensures) c.read_scan.ensures.read tallied published in
    let counts_are = c.published.ensures.counts ∙ ap (λ (s : Sums). s.counts) c.sums_of-sums.ensures in
    let printed = rw (c.window_of-window.ensures, c.gates_of-gates.ensures, counts_are, c.published.ensures.means, c.published.ensures.qualities) at c.put_sheet.ensures.appended in
    appends_same (is_sheet c.requires.0 cells.the_sums cells.the_cells) printed
