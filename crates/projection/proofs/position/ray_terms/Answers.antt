-- `projection::position::ray_terms` meets its contract. Assumes nothing.
use mathlib.Core.Path.{◌≡◌, ap, ap₂, ◌∙◌}
use native.Mathlib.Omega.{arith}
use lib.IntN.{ℤ, pos}
use mir.Syntax.{w64}
use mir.Val.{to_z, of_z}
use Rattle.arithmetic.proofs.Machine.{fits64, fits_pos, read_back}
use Rattle.sine.specs.Sine.{sine_of, cosine_of}
use Rattle.sine.proofs.SineBounds.{sine_magnitude, cosine_magnitude}
use Rattle.projection.specs.declared.position.RayTerms.{RayTerms}
use Rattle.projection.specs.Position.{ray_terms}
use Rattle.projection.proofs.position.ray_terms.Goals as goal

pub returns : goal.returns
unfolding ray_terms
returns c =
    let angle : to_z w64 (of_z w64 c.from-angle.result) ≡ pos c.args.azimuth = read_back c.from-angle.ensures (fits_pos (omega (arith, c.ranges.azimuth.fits))) in
    ap₂ {C = RayTerms} (λ (x y : ℤ). record { sa = x; ca = y })
    (read_back (c.sine.ensures ∙ ap sine_of angle) (fits64 (sine_magnitude _) tt))
    (read_back (c.cosine.ensures ∙ ap cosine_of angle) (fits64 (cosine_magnitude _) tt))
