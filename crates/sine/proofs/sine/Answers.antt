-- `sine::sine` meets its contract. Assumes nothing.
use mathlib.Core.Path.{ap, ◌∙◌}
use lib.IntN.{neg_ℤ}
use mir.Facts.{to_z-of_z}
use Rattle.arithmetic.proofs.Machine.{fits64, read_back}
use Rattle.sine.specs.Quarters.{in_turn, by_quarters}
use Rattle.sine.specs.Sine.{quarter_sine, sine_of}
use Rattle.sine.proofs.SineBounds.{sine_magnitude}
use Rattle.sine.proofs.sine.Goals as goal

pub returns : goal.returns
unfolding sine_of by_quarters
returns c =
    read_back
    (c.sine_in_turn.ensures ∙ ap (in_turn neg_ℤ quarter_sine) (simp (to_z-of_z, c.ranges.angle) at c.turn.ensures.0))
    (fits64 (sine_magnitude c.args.angle) tt)
