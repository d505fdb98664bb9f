-- `record_writer::writer::put_record` meets its contract: seven fields, each right behind the one before. Assumes nothing.
use mathlib.Core.Path.{refl, ap}
use Prim.Native.Nat.{ℕ, ◌+◌}
use native.Mathlib.Omega.{arith}
use Rattle.std.proofs.lemmas.List.{map-id}
use Rattle.scan.specs.Scan.{scan_of}
use Rattle.record_writer.specs.RecordRoom.{record_length}
use Rattle.record_contents.proofs.ContentLengths.{grid_length_most}
use Rattle.record_contents.proofs.WrittenBytes.{record_stored}
use Rattle.record_writer.proofs.writer.put_record.Goals as goal

pub put_site-requires : goal.put_site-requires
unfolding record_length
put_site-requires c = (c.requires.site, omega arith)

pub put_gates-requires : goal.put_gates-requires
unfolding record_length
put_gates-requires c = omega arith

pub put_grid-requires : goal.put_grid-requires
unfolding record_length
put_grid-requires c = (c.requires.grid, omega arith)

pub overflow_add-after_grid : goal.overflow_add-after_grid
unfolding record_length
overflow_add-after_grid c = omega arith

pub put_weighting-requires : goal.put_weighting-requires
unfolding record_length
put_weighting-requires c = omega arith

pub overflow_add-azimuths_start : goal.overflow_add-azimuths_start
unfolding record_length
overflow_add-azimuths_start c = omega arith

pub put_numbers-requires : goal.put_numbers-requires
unfolding record_length
put_numbers-requires c = omega arith

pub overflow_add-values_start : goal.overflow_add-values_start
unfolding record_length
overflow_add-values_start c = omega arith

pub overflow_add-values_start-2 : goal.overflow_add-values_start-2
unfolding record_length
overflow_add-values_start-2 c = omega arith

pub put_numbers-requires-2 : goal.put_numbers-requires-2
unfolding record_length
put_numbers-requires-2 c = omega arith

pub overflow_add-qualities_start : goal.overflow_add-qualities_start
overflow_add-qualities_start c =
    let counted = c in
    let start = counted in
    omega (arith, start.requires, counted.grid_bytes-after_grid.ensures, grid_length_most start.args.head.grid)

pub overflow_add-qualities_start-2 : goal.overflow_add-qualities_start-2
overflow_add-qualities_start-2 c =
    let counted = c in
    let start = counted in
    omega (arith, start.requires, counted.grid_bytes-after_grid.ensures, grid_length_most start.args.head.grid)

pub put_numbers-requires-3 : goal.put_numbers-requires-3
unfolding record_length
put_numbers-requires-3 c = omega arith

pub returns : goal.returns
returns c =
    let qualities = c in
    let values = qualities in
    let azimuths = values in
    let weighting = azimuths in
    let counted = weighting in
    let grid = counted in
    let gates = grid in
    let site = gates in
    let args = site.args in
    record_stored (scan_of args.head args.rays) args.buffer.now
    (ap (λ (n : ℕ). 29 + n) counted.grid_bytes-after_grid.ensures) refl refl refl
    site.put_site.ensures gates.put_gates.ensures grid.put_grid.ensures weighting.put_weighting.ensures
    (simp map-id at azimuths.put_numbers.ensures) (simp map-id at values.put_numbers-2.ensures) (simp map-id at qualities.put_numbers-3.ensures)
