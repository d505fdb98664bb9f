-- `c_scan_calls::gate::answer_place` meets its contract, which is that of `placement::place`. Assumes nothing.
use mathlib.Core.Path.{refl, ◌∙◌}
use mir.Facts.{to_z-of_z}
use Rattle.std.proofs.Common.{rules}
use Rattle.placement.specs.Gate.{placement_answer}
use Rattle.c_answers.proofs.Told.{refused, done}
use Rattle.c_scan_calls.proofs.gate.answer_place.Goals as goal

pub returns-in_err-place-clause-placed : goal.returns-in_err-place-clause-placed
unfolding placement_answer
returns-in_err-place-clause-placed c =
    let azimuth = simp (to_z-of_z, c.ranges.azimuth, c.ranges.range) at c.unsigned32-azimuth.ensures in
    let range = simp (to_z-of_z, c.ranges.azimuth, c.ranges.range) at c.unsigned32-range.ensures in
    let told = rw (c.site_at.ensures, c.grid_at.ensures, azimuth, range) at c.in_err-place.ensures.numbers in
    refused _ _ c.in_err-place.field-0.0 told (search rules) refl

pub returns-clause-placed : goal.returns-clause-placed
unfolding placement_answer
returns-clause-placed c =
    let azimuth = simp (to_z-of_z, c.ranges.azimuth, c.ranges.range) at c.unsigned32-azimuth.ensures in
    let range = simp (to_z-of_z, c.ranges.azimuth, c.ranges.range) at c.unsigned32-range.ensures in
    let told = rw (c.site_at.ensures, c.grid_at.ensures, azimuth, range) at c.in_ok-place.ensures.numbers in
    done _ _ _ told (λ e. c.put.ensures.written ∙ e)
