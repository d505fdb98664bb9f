-- No call of a sequence is refused by 31. Assumes nothing.
use mathlib.Core.Bool.{Bool, true, false, cond}
use mathlib.Core.List.{List, [], ◌∷◌}
use mathlib.Core.Path.{◌≡◌, refl, sym, ◌∙◌}
use Prim.Native.Nat.{ℕ, zero, suc}
use native.Mathlib.Omega.{arith}
use Rattle.refusal.specs.Answer.{refuses, answered}
use Rattle.refusal.specs.Checks.{Check, ◌unless◌, first_refusal, ◌then◌}
use Rattle.refusal.proofs.AnswerLaws.{refused_is}
use Rattle.tally.specs.Width.{fit_widths}
use Rattle.scan.specs.declared.head.ScanHead.{ScanHead}
use Rattle.scan.specs.ScanRefusal.{scan_number}
use Rattle.sweep_checks.specs.SweepNumbers.{state_number, take_number, close_number}
use Rattle.sweep_checks.specs.RayGroup.{RayGroup}
use Rattle.accepted_take.specs.TakenLists.{taken_lists, take_checks, take_refusal}
use Rattle.sweep.specs.SweepOperations.{rays_refusal, counted, close_refusal, ended}
use Rattle.sweep_laws.specs.SweepSequence.{SweepLists, Held, Call, takes, closes, Sixteen, IsCall, NotRefusedBy}
use Rattle.sweep_laws.proofs.SweepInvariant.{SoFar, always_fits}

-- ---- the other numbers

Other : ℕ → Type 0
Other n = n ≡ 31 → ⊥

infixr 5 ◌and◌
◌and◌ : {A B : Type 0} → A → B → A × B
a and b = (a, b)

Others : List Check → Type 0
Others [] = Unit {0}
Others ((n unless passes) ∷ checks) = Other n × Others checks

first_other : (checks : List Check) → Others checks → Other (first_refusal checks)
unfolding Other Others first_refusal
first_other [] o = λ e. omega (arith, e)
first_other ((n unless true) ∷ checks) (o, others) = first_other checks others
first_other ((n unless false) ∷ checks) (o, others) = o

other_then : (first second : ℕ) → Other first → Other second → Other (first then second)
unfolding Other ◌then◌
other_then zero second o p = p
other_then (suc n) second o p = o

scan_other : (head : ScanHead) (lengths azimuths qualities : Bool) → Other (scan_number head lengths azimuths qualities)
unfolding scan_number Other Others
scan_other head lengths azimuths qualities =
    first_other _
    ((λ e. omega (arith, e)) and (λ e. omega (arith, e)) and (λ e. omega (arith, e)) and (λ e. omega (arith, e)) and (λ e. omega (arith, e)) and (λ e. omega (arith, e)) and (λ e. omega (arith, e)) and (λ e. omega (arith, e)) and tt)

state_other : (head : ScanHead) (closed : Bool) (taken more : ℕ) → Other (state_number head closed taken more)
unfolding state_number Other Others
state_other head closed taken more = first_other _ ((λ e. omega (arith, e)) and (λ e. omega (arith, e)) and tt)

-- ---- the calls

module _ {head : ScanHead} {lent : SweepLists} {rays : RayGroup} {held : Held} (so_far : SoFar head lent rays held) where
  checks_other : (group : RayGroup) → Other (take_checks held.sweep.head held.sweep.closed held.sweep.taken group held.lists.tally)
  unfolding take_checks take_number
  checks_other group = other_then _ _ (state_other _ _ _ _) (scan_other _ _ _ _)

  take_other : (group : RayGroup) → Sixteen group.values → Other (rays_refusal held.sweep group held.lists.tally)
  unfolding rays_refusal take_refusal first_refusal ◌then◌ Other
  take_other group sixteen e =
      go (take_checks held.sweep.head held.sweep.closed held.sweep.taken group held.lists.tally) refl e
    where
      go : (n : ℕ) → take_checks held.sweep.head held.sweep.closed held.sweep.taken group held.lists.tally ≡ n → (n then cond (fit_widths (taken_lists held.sweep.head held.sweep.taken group held.lists.tally).sums) 0 31) ≡ 31 → ⊥
      go zero z f = let wrong : ◌≡◌ {A = ℕ} 0 31 = rw (always_fits so_far group sixteen z) at f in omega (arith, wrong)
      go (suc n) z f = checks_other group (z ∙ f)

  close_other : Other (close_refusal held.sweep held.lists.tally.sums held.lists.cells)
  unfolding close_refusal close_number Other Others
  close_other = other_then _ _ (other_then _ _ (state_other _ _ _ _) (scan_other _ _ _ _)) (first_other _ ((λ e. omega (arith, e)) and (λ e. omega (arith, e)) and tt))

  pub call_other : (call : Call) → IsCall held call → (calls : List Call) → NotRefusedBy 31 calls → NotRefusedBy 31 (call ∷ calls)
  unfolding IsCall NotRefusedBy Other
  call_other (takes group answer lists) (contract, sixteen) calls others = (
    λ e. let told : refuses 31 ≡ answered (rays_refusal held.sweep group _) (counted held.sweep group) = sym e ∙ contract.the_answer in take_other group sixteen (sym (refused_is _ _ told).0),
    others,
  )
  call_other (closes answer cells) contract calls others = (
    λ e. let told : refuses 31 ≡ answered (close_refusal held.sweep held.lists.tally.sums held.lists.cells) (ended held.sweep) = sym e ∙ contract.the_answer in close_other (sym (refused_is _ _ told).0),
    others,
  )
