-- From the checks of a group and the test of the sums' widths to its refusal number. Assumes nothing.
use mathlib.Core.Bool.{Bool, true, false}
use mathlib.Core.Path.{◌≡◌, ◌∙◌}
use Prim.Native.Nat.{ℕ}
use Rattle.refusal.specs.Checks.{first_refusal}
use Rattle.refusal.proofs.Then.{then_next}
use Rattle.scan.specs.declared.head.ScanHead.{ScanHead}
use Rattle.tally.specs.Width.{fit_widths}
use Rattle.scan.specs.LentLists.{Lists}
use Rattle.sweep_checks.specs.RayGroup.{RayGroup}
use Rattle.accepted_take.specs.TakenLists.{taken_lists, take_checks, take_refusal}

module _ (head : ScanHead) (closed : Bool) (taken : ℕ) (group : RayGroup) (lists : Lists) where
  module _ (none : take_checks head closed taken group lists ≡ 0) where
    pub by_width : fit_widths (taken_lists head taken group lists).sums ≡ false → take_refusal head closed taken group lists ≡ 31
    unfolding take_refusal first_refusal
    by_width full = then_next _ none ∙ rw full

    pub by_nothing : fit_widths (taken_lists head taken group lists).sums ≡ true → take_refusal head closed taken group lists ≡ 0
    unfolding take_refusal first_refusal
    by_nothing fit = then_next _ none ∙ rw fit
