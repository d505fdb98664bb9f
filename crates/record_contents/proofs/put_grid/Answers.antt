-- `record_contents::put_grid` meets its contract. Assumes nothing.
use mathlib.Core.Path.{sym, ap, ◌∙◌}
use native.Mathlib.Omega.{arith}
use lib.ListN.{length}
use lib.Seq.{sets}
use Rattle.limits.specs.declared.grid.Grid.{Grid}
use Rattle.limits.specs.declared.grid.Grid.TheVariants.{Radolan, Hrap}
use Rattle.limits.specs.Accepted.{grid_accepted}
use Rattle.record_contents.specs.RecordBytes.{grid_bytes, field_bytes}
use Rattle.record_contents.proofs.ContentLengths.{grid_length_of, grid_length_lem}
use Rattle.record_contents.proofs.put_grid.Goals as goal

pub put_radolan-requires : goal.put_radolan-requires
unfolding grid_length_of
put_radolan-requires c =
    let start = c in
    let is = c.in-Radolan.is in
    (ap grid_accepted (sym is) ∙ start.requires.0, omega (arith, start.requires.1, ap (λ (grid : Grid). length (grid_bytes grid)) is, grid_length_lem (Radolan c.in-Radolan.g)))

pub put_hrap-requires : goal.put_hrap-requires
unfolding grid_length_of
put_hrap-requires c =
    let start = c in
    let is = c.in-Hrap.is in
    (ap grid_accepted (sym is) ∙ start.requires.0, omega (arith, start.requires.1, ap (λ (grid : Grid). length (grid_bytes grid)) is, grid_length_lem (Hrap c.in-Hrap.g)))

pub returns-in-Radolan : goal.returns-in-Radolan
returns-in-Radolan c =
    let start = c in
    c.put_radolan.ensures
    ∙ ap (λ (grid : Grid). sets start.args.buffer.now 26 (field_bytes 3 (grid_bytes grid))) (sym c.in-Radolan.is)

pub returns-in-Hrap : goal.returns-in-Hrap
returns-in-Hrap c =
    let start = c in
    c.put_hrap.ensures
    ∙ ap (λ (grid : Grid). sets start.args.buffer.now 26 (field_bytes 3 (grid_bytes grid))) (sym c.in-Hrap.is)
