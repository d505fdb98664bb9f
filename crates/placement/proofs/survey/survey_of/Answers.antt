-- `placement::survey::survey_of`: what every survey meets. Assumes nothing.
use mir.Facts.{to_z-of_z}
use Rattle.arithmetic.proofs.Machine.{fits64}
use Rattle.placement.specs.Survey.{survey_of}
use Rattle.projection.proofs.GateTerms.{good_sphere}
use Rattle.placement.proofs.SurveyLimits.{surveyed_of}
use Rattle.placement.proofs.survey.survey_of.Goals as goal

pub invariant_of-result : goal.invariant_of-result
unfolding survey_of
invariant_of-result c =
    let terms = simp (to_z-of_z, fits64 (good_sphere c.args.grid).meridian_limit tt) at (rw c.sphere_of-sphere.ensures at c.site_terms-terms.ensures) in
    rw (terms, c.sphere_of-sphere.ensures, c.window_of-window.ensures)
    (surveyed_of c.args.site c.args.grid c.requires.0 c.requires.1)
