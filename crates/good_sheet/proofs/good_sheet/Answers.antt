-- `good_sheet::good_sheet` meets its contract: each list is a part of an array that is long enough. Assumes nothing.
use mathlib.Core.Path.{sym, ◌∙◌}
use native.Mathlib.Omega.{arith}
use lib.Seq.{length-take-le}
use Rattle.scan.proofs.AcceptedScan.{lengths_exact}
use Rattle.record_sheet.proofs.GoodRecord.{rays_most}
use Rattle.good_sheet.proofs.good_sheet.Goals as goal

pub slice_bounds-azimuths-end : goal.slice_bounds-azimuths-end
slice_bounds-azimuths-end c = omega (arith, rays_most c.requires.0)

pub slice_bounds-cells_text-end : goal.slice_bounds-cells_text-end
slice_bounds-cells_text-end c = sym (length-take-le _ _ (omega (arith, rays_most c.requires.0)))

pub cells_text-requires : goal.cells_text-requires
cells_text-requires c =
    let gates = c.gates_of-gates.ensures in
    let cells = c.cells_of-cells.ensures in (
      c.requires.0,
      lengths_exact _ _ (record {
        azimuths_length = length-take-le _ _ (omega (arith, rays_most c.requires.0));
        values_length = length-take-le _ _ (omega (arith, c.requires.0.gates_most, gates)) ∙ gates;
        qualities_length = length-take-le _ _ (omega (arith, c.requires.0.gates_most, gates)) ∙ gates;
        ledger_length = length-take-le _ _ (omega (arith, c.requires.0.gates_most, gates)) ∙ gates;
        marks_length = length-take-le _ _ (omega (arith, c.requires.0.gates_most, gates)) ∙ gates;
        counts_length = length-take-le _ _ (omega (arith, c.requires.0.cells_most, cells)) ∙ cells;
        quality_sums_length = length-take-le _ _ (omega (arith, c.requires.0.cells_most, cells)) ∙ cells;
        value_sums_length = length-take-le _ _ (omega (arith, c.requires.0.cells_most, cells)) ∙ cells;
        weighted_sums_length = length-take-le _ _ (omega (arith, c.requires.0.cells_most, cells)) ∙ cells;
      }),
      record {
        means_length = length-take-le _ _ (omega (arith, c.requires.0.cells_most, cells)) ∙ cells;
        cell_qualities_length = length-take-le _ _ (omega (arith, c.requires.0.cells_most, cells)) ∙ cells;
      },
      c.requires.1,
    )
