-- `grid::window::index_of` meets its contract. Assumes nothing.
use mir.Facts.{to_z-of_z}
use Rattle.arithmetic.proofs.Machine.{fits64, fits64_floor, read_back}
use Rattle.arithmetic.proofs.Magnitude.{magnitude_difference}
use Rattle.grid.specs.Window.{index_of}
use Rattle.grid.proofs.window.index_of.Goals as goal

pub overflow_sub-x : goal.overflow_sub-x
overflow_sub-x c = simp (to_z-of_z, c.ranges.x, c.ranges.corner) (fits64 (magnitude_difference c.requires.2 c.requires.1) tt)

pub returns : goal.returns
unfolding index_of
returns c =
    let apart = fits64 (magnitude_difference c.requires.2 c.requires.1) tt in
    read_back (simp (to_z-of_z, c.ranges.x, c.ranges.corner, apart) at c.floor_div.ensures) (fits64_floor c.args.side apart)
