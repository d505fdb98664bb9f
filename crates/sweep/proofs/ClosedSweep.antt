-- What is known of a sweep whose closing is not refused. Assumes nothing.
use mathlib.Core.Bool.{Bool, false}
use mathlib.Core.Path.{◌≡◌, sym, ◌∙◌}
use Prim.Native.Nat.{ℕ, ◌≤◌}
use native.Mathlib.Omega.{arith}
use borrow.Author.Tests.{eqb-true, leb-true}
use lib.ListN.{length}
use Rattle.arithmetic.proofs.Test.{and_true}
use Rattle.refusal.specs.Checks.{first_refusal}
use Rattle.refusal.proofs.CheckLaws.{passed}
use Rattle.refusal.proofs.Then.{then_none}
use Rattle.tally.specs.LentSums.{Sums, Cells}
use Rattle.publish.specs.PublishRoom.{Publishable}
use Rattle.scan.specs.declared.head.ScanHead.{ScanHead}
use Rattle.scan.specs.Scan.{cells_of}
use Rattle.sweep_checks.specs.SweepLengths.{cells_accepted}
use Rattle.sweep_checks.specs.SweepNumbers.{close_number}
use Rattle.sweep_checks.proofs.AcceptedSums.{AcceptedSums, accepted_sums}
use Rattle.sweep_checks.proofs.PassedState.{passed_state}

pub record AcceptedClose (head : ScanHead) (closed : Bool) (taken : ℕ) (sums : Sums) (cells : Cells) : Type 0 where
  pub open_yet : closed ≡ false
  pub rays_most : taken ≤ head.rays
  pub rays_least : head.rays ≤ taken
  pub accepted : AcceptedSums head sums
  pub means_length : length cells.means ≡ cells_of head
  pub cell_qualities_length : length cells.qualities ≡ cells_of head

pub accepted_close : (head : ScanHead) (closed : Bool) (taken : ℕ) (sums : Sums) (cells : Cells) → close_number head closed taken sums cells ≡ 0 → AcceptedClose head closed taken sums cells
unfolding close_number first_refusal cells_accepted
accepted_close head closed taken sums cells e =
    let both = then_none _ _ e in
    let state = passed_state head closed taken 0 (then_none _ _ both.0).0 in
    let rays = passed _ 17 _ both.1 in
    let lengths = passed _ 5 _ rays.1 in
    let lists = and_true _ _ lengths.0 in
    let last = and_true _ _ lists.1 in
    record {
      open_yet = state.open_yet;
      rays_most = omega (arith, state.rays_most);
      rays_least = leb-true head.rays taken rays.0;
      accepted = accepted_sums head sums lists.0;
      means_length = eqb-true _ _ last.0;
      cell_qualities_length = eqb-true _ _ last.1;
    }

pub publishable : {head : ScanHead} {closed : Bool} {taken : ℕ} {sums : Sums} {cells : Cells} → AcceptedClose head closed taken sums cells → Publishable sums cells
publishable known =
    let n = sym known.accepted.counts_length in
    record {
      quality_sums_length = known.accepted.quality_sums_length ∙ n;
      value_sums_length = known.accepted.value_sums_length ∙ n;
      weighted_sums_length = known.accepted.weighted_sums_length ∙ n;
      means_length = known.means_length ∙ n;
      cell_qualities_length = known.cell_qualities_length ∙ n;
    }
