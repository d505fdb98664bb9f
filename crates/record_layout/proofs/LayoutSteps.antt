-- The layout, as the code goes through the fields. Assumes nothing.
use mathlib.Core.List.{List}
use mathlib.Core.Path.{◌≡◌, sym, subst, ◌∙◌}
use Prim.Native.Nat.{ℕ, zero, suc, ◌+◌, ◌-◌, ◌<◌}
use native.Mathlib.Nat.{zero-add, suc-add}
use native.Mathlib.Numerals.{add-one}
use native.Mathlib.Omega.{arith}
use Rattle.arithmetic.specs.Places.{sum_to}
use Rattle.record_layout.specs.RecordPlaces.{content_length, field_start}
use Rattle.refusal.specs.Checks.{◌then◌}
use Rattle.record_layout.specs.RecordRefusal.{field_refusal, fields_refusal}
use Rattle.refusal.proofs.Then.{then_kept, then_next}

pub next_start : (bytes : List ℕ) (k : ℕ) → field_start bytes (k + 1) ≡ field_start bytes k + (3 + content_length bytes k)
unfolding field_start sum_to
next_start bytes k = rw add-one

-- ---- one field after the other

pub fields_step : (bytes : List ℕ) (k : ℕ) → fields_refusal bytes k ≡ 0 → fields_refusal bytes (k + 1) ≡ field_refusal bytes k
unfolding fields_refusal
fields_step bytes k e = rw add-one (then_next _ e)

-- a field that is refused gives the number, whatever comes behind it
fields_kept : (bytes : List ℕ) (n more number : ℕ) → number ≡ fields_refusal bytes n → (number ≡ 0 → ⊥) → number ≡ fields_refusal bytes (more + n)
unfolding fields_refusal
fields_kept bytes n zero number e wrong = rw zero-add e
fields_kept bytes n (suc more) number e wrong = rw suc-add (then_kept _ (fields_kept bytes n more number e wrong) wrong)

pub fields_stop : (bytes : List ℕ) (k : ℕ) {number : ℕ} (last : ℕ) → fields_refusal bytes k ≡ 0 → k < 7 → number ≡ field_refusal bytes k → (number ≡ 0 → ⊥) → number ≡ (fields_refusal bytes 7 then last)
fields_stop bytes k {number} last none h e wrong =
    then_kept last
    (subst (λ (n : ℕ). number ≡ fields_refusal bytes n) (omega arith)
    (fields_kept bytes (k + 1) (6 - k) number (e ∙ sym (fields_step bytes k none)) wrong))
    wrong
