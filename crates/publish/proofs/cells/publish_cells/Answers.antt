-- `publish::cells::publish_cells` meets its contract, for either weighting. Assumes nothing.
use Rattle.std.proofs.Common.{rules}
use Rattle.limits.specs.declared.weighting.Weighting.TheVariants.{Plain, ByQuality}
use Rattle.publish.specs.Publish.{dividends, divisors}
use Rattle.publish.proofs.FilledCells.{cells_filled}
use Rattle.publish.proofs.cells.publish_cells.Goals as goal

pub returns-in-Plain-clause-the_cells : goal.returns-in-Plain-clause-the_cells
unfolding dividends divisors
returns-in-Plain-clause-the_cells c =
    let m = c.fill_cells-in-Plain.ensures in
    let q = c.fill_cells.ensures in
    cells_filled c.requires Plain c.in-Plain.is m.same_length q.same_length (λ k s d r a b e. search (rules, m.given k s d r a b e)) (λ k s d r a b e. search (rules, q.given k s d r a b e))

pub returns-in-ByQuality-clause-the_cells : goal.returns-in-ByQuality-clause-the_cells
unfolding dividends divisors
returns-in-ByQuality-clause-the_cells c =
    let m = c.fill_cells-in-ByQuality.ensures in
    let q = c.fill_cells.ensures in
    cells_filled c.requires ByQuality c.in-ByQuality.is m.same_length q.same_length (λ k s d r a b e. search (rules, m.given k s d r a b e)) (λ k s d r a b e. search (rules, q.given k s d r a b e))
