-- `projection::position::site_terms` meets its contract. Assumes nothing.
use lib.IntN.{◌-ℤ◌}
use mir.Facts.{to_z-of_z}
use mir.Syntax.{w64}
use mir.Val.{SFits}
use Rattle.arithmetic.proofs.Machine.{fits64, read_back}
use Rattle.arithmetic.proofs.Magnitude.{magnitude_difference}
use Rattle.sine.proofs.SineBounds.{sine_magnitude, cosine_magnitude}
use Rattle.projection.specs.Position.{site_terms}
use Rattle.projection.proofs.position.site_terms.Goals as goal

pub overflow_sub-longitude : goal.overflow_sub-longitude
overflow_sub-longitude c =
    simp (to_z-of_z, fits64 c.requires.0 tt, fits64 c.requires.1 tt) (fits64 (magnitude_difference c.requires.1 c.requires.0) tt)

pub returns : goal.returns
unfolding site_terms
returns c =
    let told = c.struct_told-1 in
    let latitude : SFits w64 c.args.site.latitude = record { sfits = told.given.0.1 } in
    let longitude : SFits w64 (c.args.site.longitude -ℤ c.args.meridian) = fits64 (magnitude_difference c.requires.1 c.requires.0) tt in
    let sp = simp (to_z-of_z, latitude) at c.sine.ensures in
    let cp = simp (to_z-of_z, latitude) at c.cosine.ensures in
    let sl = simp (to_z-of_z, fits64 c.requires.0 tt, fits64 c.requires.1 tt, longitude) at c.sine-2.ensures in
    let cl = simp (to_z-of_z, fits64 c.requires.0 tt, fits64 c.requires.1 tt, longitude) at c.cosine-2.ensures in
    λ i. record {
      sp = read_back sp (fits64 (sine_magnitude _) tt) i;
      cp = read_back cp (fits64 (cosine_magnitude _) tt) i;
      sl = read_back sl (fits64 (sine_magnitude _) tt) i;
      cl = read_back cl (fits64 (cosine_magnitude _) tt) i;
    }
