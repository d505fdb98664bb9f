-- `fine_sines::fine_sine` meets its contract: each step fits 64 bits, and its formula gives the entry. Assumes nothing.
use native.Mathlib.Omega.{arith}
use Rattle.fine_sines.proofs.Formulas.{f_tested, square_most, cube_most}
use Rattle.sine_series.proofs.TableTest.{rounds}
use Rattle.fine_sines.proofs.fine_sine.Goals as goal

pub overflow_mul-scaled-3 : goal.overflow_mul-scaled-3
overflow_mul-scaled-3 c = omega (arith, square_most c.requires)

pub overflow_mul-scaled-4 : goal.overflow_mul-scaled-4
overflow_mul-scaled-4 c = omega (arith, cube_most c.requires)

pub overflow_sub-scaled : goal.overflow_sub-scaled
overflow_sub-scaled c = omega (arith, cube_most c.requires)

-- each `_` is a number of the code, beside half its scale and its scale, and `tt` says that the test with them computes to true
pub returns : goal.returns
unfolding rounds
returns c = rw c.nearest.ensures (f_tested _ _ 17179869184 34359738368 tt c.args.b c.requires)
