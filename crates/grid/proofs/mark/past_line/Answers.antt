-- `grid::mark::past_line` meets its contract. Assumes nothing.
use mathlib.Core.Path.{◌≡◌, ap}
use native.Mathlib.Omega.{arith}
use lib.IntN.{pos, nat_abs, ◌-ℤ◌, ◌*ℤ◌}
use mir.Facts.{to_z-of_z}
use mir.Syntax.{w64}
use mir.Val.{SFits, to_z, of_z}
use Rattle.arithmetic.proofs.Machine.{fits64, fits_pos, word_natural, read_back}
use Rattle.grid.specs.Mark.{past_line}
use Rattle.grid.proofs.LineLaws.{from_corner, line_limit, past_is, past_below}
use Rattle.grid.proofs.mark.past_line.Goals as goal

-- what the two words hold whose difference is the rest
apart : (c : goal.Start) → to_z w64 (of_z w64 (to_z w64 (of_z w64 c.args.x) -ℤ to_z w64 (of_z w64 c.args.corner))) ≡ c.args.x -ℤ c.args.corner
apart c = simp (to_z-of_z, c.ranges.x, c.ranges.corner, fits64 (from_corner c.requires) tt)

line : (c : goal.Start) → to_z w64 (of_z w64 (to_z w64 (of_z w64 c.args.index) *ℤ to_z w64 c.args.side)) ≡ c.args.index *ℤ pos c.args.side
line c = simp (to_z-of_z, c.ranges.index, word_natural c.requires.side_most tt, fits64 (line_limit c.requires) tt)

past_fits : (c : goal.Start) → SFits w64 (pos (past_line c.args.corner c.args.side c.args.x))
past_fits c = fits_pos (omega (arith, past_below c.requires, c.requires.side_most))

pub overflow_sub-result : goal.overflow_sub-result
overflow_sub-result c = simp (to_z-of_z, c.ranges.x, c.ranges.corner) (fits64 (from_corner c.requires) tt)

pub overflow_mul-result : goal.overflow_mul-result
overflow_mul-result c = simp (to_z-of_z, c.ranges.index, word_natural c.requires.side_most tt) (fits64 (line_limit c.requires) tt)

pub overflow_sub-result-2 : goal.overflow_sub-result-2
overflow_sub-result-2 c = rw (apart c, line c, past_is c.requires) (past_fits c)

pub overflow_cast-result-2 : goal.overflow_cast-result-2
overflow_cast-result-2 c = rw (apart c, line c, read_back (past_is c.requires) (past_fits c)) (tt, record { fits = omega (arith, past_below c.requires, c.requires.side_most) })

pub returns : goal.returns
returns c = rw (apart c, line c) (ap nat_abs (read_back (past_is c.requires) (past_fits c)))
