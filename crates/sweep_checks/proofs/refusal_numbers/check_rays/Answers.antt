-- `sweep_checks::refusal_numbers::check_rays` meets its contract. Assumes nothing.
use mathlib.Core.Path.{sym, ◌∙◌}
use Rattle.std.proofs.Common.{rules}
use Rattle.refusal.proofs.NumberedLaws.{refused_first}
use Rattle.refusal.proofs.Then.{then_next}
use Rattle.sweep_checks.specs.SweepNumbers.{rays_number}
use Rattle.sweep_checks.proofs.refusal_numbers.check_rays.Goals as goal

pub returns-in_err-check_state : goal.returns-in_err-check_state
unfolding rays_number
returns-in_err-check_state c = refused_first c.in_err-check_state.field-0.0 _ c.in_err-check_state.ensures (search rules)

pub returns : goal.returns
unfolding rays_number
returns c = c.check_scan.ensures ∙ sym (then_next _ (sym c.in_ok-check_state.ensures))
