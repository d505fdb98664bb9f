-- Rays joined end to end: what is told of their gates, their lists and what was tested of them. Assumes nothing.
use mathlib.Core.Bool.{Bool, true}
use mathlib.Core.List.{List, [], ◌∷◌, ◌++◌}
use mathlib.Core.Path.{◌≡◌, refl, sym, ap, ◌∙◌}
use Prim.Native.Nat.{ℕ, ◌*◌}
use native.Mathlib.Nat.{add-mul}
use native.Mathlib.Omega.{arith}
use lib.ListN.{length, length-append}
use Rattle.arithmetic.specs.Places.{all_of}
use Rattle.arithmetic.proofs.Test.{and_true}
use Rattle.placement.specs.Gate.{PlaceAnswer}
use Rattle.scan.specs.declared.head.ScanHead.{ScanHead}
use Rattle.scan.specs.Rays.{regular_rays}
use Rattle.scan.proofs.RayLaws.{gates_joined, gates_length, regular_gates}
use Rattle.scan_ledger.specs.ScanLedger.{gates_told}

pub all_joined : (test : ℕ → Bool) (xs ys : List ℕ) → all_of test xs ≡ true → all_of test ys ≡ true → all_of test (xs ++ ys) ≡ true
unfolding all_of
all_joined test [] ys e f = f
all_joined test (x ∷ xs) ys e f = let both = and_true (test x) (all_of test xs) e in rw both.0 (all_joined test xs ys both.1 f)

rays_joined : (gates : ℕ) (xs ys : List ℕ) → regular_rays gates (xs ++ ys) ≡ regular_rays gates xs ++ regular_rays gates ys
unfolding regular_rays
rays_joined gates [] ys = refl
rays_joined gates (x ∷ xs) ys = ap (◌∷◌ (record { azimuth = x; gates = gates })) (rays_joined gates xs ys)

pub lengths_joined : (gates : ℕ) (a b v w : List ℕ) → length v ≡ length a * gates → length w ≡ length b * gates → length (v ++ w) ≡ length (a ++ b) * gates
lengths_joined gates a b v w e f =
    length-append v w ∙ omega (arith, e, f, add-mul (length a) (length b) gates) ∙ ap (λ (n : ℕ). n * gates) (sym (length-append a b))

module _ (told : PlaceAnswer → ℕ) (head : ScanHead) (gates : ℕ) where
  pub told_joined : (xs ys : List ℕ) → gates_told told head (regular_rays gates (xs ++ ys)) ≡ gates_told told head (regular_rays gates xs) ++ gates_told told head (regular_rays gates ys)
  unfolding gates_told
  told_joined xs ys = rw (rays_joined gates xs ys) (gates_joined _ head.first head.spacing (regular_rays gates xs) (regular_rays gates ys))

  pub told_length : (xs : List ℕ) → length (gates_told told head (regular_rays gates xs)) ≡ length xs * gates
  unfolding gates_told
  told_length xs = gates_length _ head.first head.spacing (regular_rays gates xs) ∙ regular_gates gates xs
