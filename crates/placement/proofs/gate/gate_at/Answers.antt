-- `placement::gate::gate_at`: position and cell have what they ask. Assumes nothing.
use mir.Facts.{to_z-of_z}
use Rattle.arithmetic.proofs.Machine.{fits64}
use Rattle.placement.proofs.SurveyLimits.{survey_sound, survey_reachable}
use Rattle.placement.proofs.gate.gate_at.Goals as goal

pub position_of-requires : goal.position_of-requires
position_of-requires c =
    let known = c.survey.invariant in
    rw c.arc_terms-arc.ensures
    (simp (to_z-of_z, fits64 known.k_limit tt) (survey_sound _ c.args.ray c.args.range known c.requires.0 c.requires.1))

pub cell_at-requires : goal.cell_at-requires
cell_at-requires c =
    let known = c.survey.invariant in
    rw (simp (to_z-of_z, fits64 known.k_limit tt) at (rw c.arc_terms-arc.ensures at c.position_of.ensures))
    (survey_reachable _ c.args.ray c.args.range known c.requires.0 c.requires.1)
