-- `sine::quarter_sine` meets its contract: its sum is the definition's, which is not negative. Assumes nothing.
use mathlib.Core.Path.{◌≡◌, sym, ◌∙◌}
use Prim.Native.Nat.{◌+◌, ◌*◌, ◌/◌, ◌≤◌, ◌<◌}
use native.Mathlib.Omega.{arith}
use Rattle.arithmetic.proofs.Machine.{word_pos}
use Rattle.sine.specs.Bounds.{sine_limit}
use Rattle.sine_series.specs.Tables.{Q}
use Rattle.sine.proofs.SineBounds.{quarter_sum, quarter_sum_read, quarter_sum_most, quarter_natural}
use Rattle.sine.proofs.quarter_sine.Goals as goal

sum_is : (c : goal.After-from-4) → c.from.result * c.from-2.result + c.from-3.result * c.from-4.result ≡ quarter_sum c.args.t
sum_is c =
    let coarse = c.coarse_sines-s.ensures.at in
    rw (c.from.ensures, c.from-2.ensures, c.from-3.ensures, c.from-4.ensures)
    (quarter_sum_read c.args.t _ _ _ _ (coarse _ (omega arith)) (rw c.from-b.ensures at c.fine_cosine.ensures) (coarse _ (omega arith)) (rw c.from-b.ensures at c.fine_sine.ensures))

sum-small : (c : goal.After-from-4) → c.from.result * c.from-2.result + c.from-3.result * c.from-4.result ≤ sine_limit * Q
sum-small c = rw (sum_is c) (quarter_sum_most c.args.t c.requires)

pub overflow_add-sum : goal.overflow_add-sum
overflow_add-sum c = omega (arith, sum-small c)

pub returns : goal.returns
returns c =
    let small : (c.from.result * c.from-2.result + c.from-3.result * c.from-4.result) / Q < 9223372036854775808 = omega (arith, sum-small c) in
    word_pos small ∙ rw (sum_is c) (sym (quarter_natural c.args.t c.requires))
