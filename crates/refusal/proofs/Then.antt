-- The laws of `_then_`: the first of two refusals, or the second where there is none. Assumes nothing.
use mathlib.Core.Path.{◌≡◌, refl, ◌∙◌}
use Prim.Native.Nat.{ℕ, zero, suc}
use native.Mathlib.Omega.{arith}
use Rattle.refusal.specs.Checks.{◌then◌}

-- the first is given
pub then_kept : {number first : ℕ} (second : ℕ) → number ≡ first → (number ≡ 0 → ⊥) → number ≡ (first then second)
unfolding ◌then◌
then_kept {number} {first} second e wrong = go first e
  where
    go : (m : ℕ) → number ≡ m → number ≡ (m then second)
    go zero q = absurd (wrong q)
    go (suc m) q = q

-- the first is not given
pub then_next : {first : ℕ} (second : ℕ) → first ≡ 0 → (first then second) ≡ second
unfolding ◌then◌
then_next second e = rw e

-- neither of the two is given
pub then_zero : {first second : ℕ} → first ≡ 0 → second ≡ 0 → (first then second) ≡ 0
then_zero e f = then_next _ e ∙ f

pub then_none : (first second : ℕ) → (first then second) ≡ 0 → (first ≡ 0) × (second ≡ 0)
unfolding ◌then◌
then_none zero second e = (refl, e)
then_none (suc number) second e = absurd (omega arith)

-- equal firsts, and equal seconds where no first is given
pub then_same : {first first' second second' : ℕ} → first ≡ first' → (first' ≡ 0 → second ≡ second') → (first then second) ≡ (first' then second')
unfolding ◌then◌
then_same {first} {first'} {second} {second'} e same = rw e (go first' same)
  where
    go : (n : ℕ) → (n ≡ 0 → second ≡ second') → (n then second) ≡ (n then second')
    go zero f = f refl
    go (suc n) f = refl
