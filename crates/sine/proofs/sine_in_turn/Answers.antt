-- `sine::sine_in_turn` meets its contract, quarter by quarter. Assumes nothing.
use mathlib.Core.Path.{◌≡◌, ◌∙◌}
use Prim.Native.Nat.{ℕ, ◌/◌, ◌%◌, ◌≤◌}
use native.Mathlib.Omega.{arith}
use lib.IntN.{neg_ℤ, +ℤ_idl}
use mir.Facts.{to_z-of_z}
use mir.Syntax.{w64}
use mir.Val.{SFits}
use Rattle.arithmetic.proofs.Machine.{fits64, read_back}
use Rattle.arithmetic.proofs.Magnitude.{magnitude_negation}
use Rattle.sine.specs.Quarters.{in_quarter, in_turn}
use Rattle.sine.specs.Sine.{quarter_sine}
use Rattle.sine.proofs.SineBounds.{quarter_magnitude}
use Rattle.sine.proofs.sine_in_turn.Goals as goal

-- the quarter that the code found
quarter-of : (m q : ℕ) → m / 900000 ≡ q → in_quarter neg_ℤ quarter_sine q (m % 900000) ≡ in_turn neg_ℤ quarter_sine m
unfolding in_turn
quarter-of m q e = rw e

plus-fits : (t : ℕ) → t ≤ 900000 → SFits w64 (quarter_sine t)
plus-fits t h = fits64 (quarter_magnitude t h) tt

minus-fits : (t : ℕ) → t ≤ 900000 → SFits w64 (neg_ℤ (quarter_sine t))
minus-fits t h = fits64 (magnitude_negation (quarter_magnitude t h)) tt

pub overflow_sub-result : goal.overflow_sub-result
overflow_sub-result c = rw (read_back c.quarter_sine-in-2.ensures (plus-fits _ (omega arith)), +ℤ_idl) (minus-fits _ (omega arith))

pub overflow_sub-result-in_default : goal.overflow_sub-result-in_default
overflow_sub-result-in_default c = rw (read_back c.quarter_sine-in_default.ensures (plus-fits _ (omega arith)), +ℤ_idl) (minus-fits _ (omega arith))

pub returns-in-0 : goal.returns-in-0
unfolding in_quarter
returns-in-0 c = read_back c.quarter_sine.ensures (plus-fits _ (omega arith)) ∙ quarter-of _ 0 c.in-0.is

pub returns-in-1 : goal.returns-in-1
unfolding in_quarter
returns-in-1 c = read_back c.quarter_sine-in-1.ensures (plus-fits _ (omega arith)) ∙ quarter-of _ 1 c.in-1.is

pub returns-in-2 : goal.returns-in-2
unfolding in_quarter
returns-in-2 c =
    rw (read_back c.quarter_sine-in-2.ensures (plus-fits _ (omega arith)), +ℤ_idl)
    (to_z-of_z (minus-fits _ (omega arith)) ∙ quarter-of _ 2 c.in-2.is)

pub returns-in_default : goal.returns-in_default
unfolding in_quarter
returns-in_default c =
    rw (read_back c.quarter_sine-in_default.ensures (plus-fits _ (omega arith)), +ℤ_idl)
    (to_z-of_z (minus-fits _ (omega arith)) ∙ quarter-of _ 3 (omega arith))
