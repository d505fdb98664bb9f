-- The laws of an answer, over its values. Assumes nothing.
use mathlib.Core.Path.{◌≡◌, refl}
use Prim.Native.Nat.{ℕ, zero, suc}
use native.Mathlib.Omega.{arith}
use Rattle.refusal.specs.Answer.{gives, refuses, answered, number_in, left_by, afterwards}

-- ---- from a refusal number to the answer

pub is_given : {A : Type 0} {number : ℕ} {given values : A} → number ≡ 0 → given ≡ values → gives given ≡ answered number values
unfolding answered
is_given e f = rw (e, f)

pub is_refused : {A : Type 0} (number : ℕ) (values : A) → (number ≡ 0 → ⊥) → refuses number ≡ answered number values
unfolding answered
is_refused zero values wrong = absurd (wrong refl)
is_refused (suc number) values wrong = refl

-- ---- and back

pub given_is : {A : Type 0} (number : ℕ) {given values : A} → gives given ≡ answered number values → (number ≡ 0) × (given ≡ values)
unfolding answered
given_is zero e = (refl, cc)
given_is (suc number) e = (cc, cc)

pub refused_is : {A : Type 0} (number : ℕ) {told : ℕ} (values : A) → refuses told ≡ answered number values → (told ≡ number) × (number ≡ 0 → ⊥)
unfolding answered
refused_is zero values e = (cc, λ z. let wrong : ◌≡◌ {A = ℕ} 0 1 = cc in omega arith)
refused_is (suc number) values e = (cc, λ z. omega arith)

-- ---- what is lent

pub kept : {A : Type 0} (number : ℕ) (before after : A) → (number ≡ 0 → ⊥) → before ≡ afterwards number before after
unfolding afterwards
kept zero before after wrong = absurd (wrong refl)
kept (suc number) before after wrong = refl

pub filled : {A : Type 0} {number : ℕ} {left : A} (before : A) {after : A} → number ≡ 0 → left ≡ after → left ≡ afterwards number before after
unfolding afterwards
filled before e f = rw e f

pub filled_is : {A : Type 0} {number : ℕ} {left : A} (before : A) {after : A} → number ≡ 0 → left ≡ afterwards number before after → left ≡ after
unfolding afterwards
filled_is before e f = rw e at f

-- ---- the answer as a number, and what it leaves

pub number_in_lem : {A : Type 0} (number : ℕ) (values : A) → number_in (answered number values) ≡ number
unfolding number_in answered
number_in_lem zero values = refl
number_in_lem (suc number) values = refl

pub left_by_lem : {A : Type 0} (number : ℕ) (before values : A) → left_by before (answered number values) ≡ afterwards number before values
unfolding left_by answered afterwards
left_by_lem zero before values = refl
left_by_lem (suc number) before values = refl
