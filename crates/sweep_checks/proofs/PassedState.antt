-- What is known of a state that passes its first two tests. Assumes nothing.
use mathlib.Core.Path.{◌≡◌}
use mathlib.Core.Bool.{Bool, false}
use Prim.Native.Nat.{ℕ, ◌+◌, ◌≤◌}
use borrow.Author.Tests.{leb-true, not-true}
use Rattle.refusal.specs.Checks.{first_refusal}
use Rattle.refusal.proofs.CheckLaws.{passed}
use Rattle.scan.specs.declared.head.ScanHead.{ScanHead}
use Rattle.sweep_checks.specs.SweepNumbers.{state_number}

pub record PassedState (head : ScanHead) (closed : Bool) (taken more : ℕ) : Type 0 where
  pub open_yet : closed ≡ false
  pub rays_most : taken + more ≤ head.rays

pub passed_state : (head : ScanHead) (closed : Bool) (taken more : ℕ) → state_number head closed taken more ≡ 0 → PassedState head closed taken more
unfolding state_number first_refusal
passed_state head closed taken more e =
    let closed-tested = passed _ 18 _ e in
    let rays-tested = passed _ 16 _ closed-tested.1 in
    record { open_yet = not-true closed closed-tested.0; rays_most = leb-true (taken + more) head.rays rays-tested.0 }
