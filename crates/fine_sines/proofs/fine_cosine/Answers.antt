-- `fine_sines::fine_cosine` meets its contract: each step fits 64 bits, and its formula gives the entry. Assumes nothing.
use native.Mathlib.Omega.{arith}
use Rattle.fine_sines.proofs.Formulas.{g_tested, square_most}
use Rattle.sine_series.proofs.TableTest.{rounds}
use Rattle.fine_sines.proofs.fine_cosine.Goals as goal

pub overflow_mul-scaled-2 : goal.overflow_mul-scaled-2
overflow_mul-scaled-2 c = omega (arith, square_most c.requires)

pub overflow_sub-result : goal.overflow_sub-result
overflow_sub-result c = rw c.nearest.ensures (omega (arith, square_most c.requires))

-- the `_` is a number of the code, beside half its scale and its scale, and `tt` says that the test with them computes to true
pub returns : goal.returns
unfolding rounds
returns c = rw c.nearest.ensures (g_tested _ 16777216 33554432 tt c.args.b c.requires)
