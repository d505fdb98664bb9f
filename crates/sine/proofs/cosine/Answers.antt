-- `sine::cosine` meets its contract. Assumes nothing.
use mathlib.Core.Path.{ap, sym, ◌∙◌}
use Prim.Native.Nat.{ℕ, ◌+◌, ◌%◌}
use lib.IntN.{neg_ℤ}
use mir.Facts.{to_z-of_z}
use Rattle.arithmetic.proofs.Machine.{fits64, read_back}
use Rattle.sine.specs.Quarters.{in_turn}
use Rattle.sine.specs.Sine.{quarter_sine, sine_of, cosine_of}
use Rattle.sine.proofs.Quarters.{later_in_turn}
use Rattle.sine.proofs.SineBounds.{cosine_magnitude}
use Rattle.sine.proofs.cosine.Goals as goal

pub returns : goal.returns
unfolding cosine_of sine_of
returns c =
    read_back
    (c.sine_in_turn.ensures
    ∙ ap (λ (m : ℕ). in_turn neg_ℤ quarter_sine ((m + 900000) % 3600000)) (simp (to_z-of_z, c.ranges.angle) at c.turn.ensures.0)
    ∙ sym (later_in_turn neg_ℤ quarter_sine c.args.angle 900000))
    (fits64 (cosine_magnitude c.args.angle) tt)
