-- `sweep_checks::refusal_numbers::check_group` meets its contract. Assumes nothing.
use mathlib.Core.Path.{sym, ◌∙◌}
use native.Mathlib.Omega.{arith}
use Rattle.std.proofs.Common.{rules}
use Rattle.refusal.proofs.NumberedLaws.{refused_first}
use Rattle.refusal.proofs.Then.{then_next}
use Rattle.sweep_checks.specs.SweepNumbers.{take_number}
use Rattle.sweep_checks.proofs.PassedState.{passed_state}
use Rattle.sweep_checks.proofs.refusal_numbers.check_group.Goals as goal

pub returns-in_err-check_state : goal.returns-in_err-check_state
unfolding take_number
returns-in_err-check_state c = refused_first c.in_err-check_state.field-0.0 _ c.in_err-check_state.ensures (search rules)

pub taken_accepted-requires : goal.taken_accepted-requires
taken_accepted-requires c = omega (arith, (passed_state _ _ _ _ (sym c.in_ok-check_state.ensures)).rays_most)

pub returns : goal.returns
unfolding take_number
returns c =
    c.check_scan.ensures
    ∙ rw c.taken_accepted.ensures
    (sym (then_next _ (sym c.in_ok-check_state.ensures)))
