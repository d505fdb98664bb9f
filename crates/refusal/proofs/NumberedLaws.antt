-- The number of a refusal, and the answer that tells it. Assumes nothing.
use mathlib.Core.Path.{◌≡◌, refl, sym, ◌∙◌}
use Prim.Native.Nat.{ℕ}
use native.Mathlib.Omega.{arith}
use Rattle.std.specs.Prelude.{Result, Ok, Err}
use Rattle.refusal.specs.declared.numbered.Refusal.{Refusal}
use Rattle.refusal.specs.declared.numbered.Refusal.TheVariants.{Rays, Gates, Centres, Site, Grid, Length, Azimuth, Quality, CutShort, WrongTag, WrongField, BytesAfter, LongRecord, ShortBuffer, RaysPast, ClosedEarly, Closed, FullSum}
use Rattle.refusal.specs.Answer.{answered, number_in, afterwards}
use Rattle.refusal.specs.Checks.{◌then◌}
use Rattle.refusal.specs.Numbered.{number_of, refusal_in, answer_of}
use Rattle.refusal.proofs.AnswerLaws.{is_given, is_refused, kept}
use Rattle.refusal.proofs.Then.{then_kept}

-- no refusal has the number 0
pub numbered : (refusal : Refusal) → number_of refusal ≡ 0 → ⊥
numbered Rays e = omega arith
numbered Gates e = omega arith
numbered Centres e = omega arith
numbered Site e = omega arith
numbered Grid e = omega arith
numbered Length e = omega arith
numbered Azimuth e = omega arith
numbered Quality e = omega arith
numbered CutShort e = omega arith
numbered WrongTag e = omega arith
numbered WrongField e = omega arith
numbered BytesAfter e = omega arith
numbered LongRecord e = omega arith
numbered ShortBuffer e = omega arith
numbered RaysPast e = omega arith
numbered ClosedEarly e = omega arith
numbered Closed e = omega arith
numbered FullSum e = omega arith

pub answer_number : {A : Type 0} (answer : Result A Refusal) → number_in (answer_of answer) ≡ refusal_in answer
unfolding number_in
answer_number (Ok value) = refl
answer_number (Err refusal) = refl

-- a value is answered where no number is given
pub answers_value : {A : Type 0} {number : ℕ} {given values : A} → number ≡ 0 → given ≡ values → answer_of (Ok given) ≡ answered number values
answers_value e f = is_given e f

-- and a refusal where its number is
pub answers_refusal : {A : Type 0} (refusal : Refusal) {number : ℕ} (values : A) → number_of refusal ≡ number → answer_of (Err refusal) ≡ answered number values
answers_refusal refusal {number} values e = rw e (is_refused number values (λ z. numbered refusal (rw e z)))

-- and what is lent stays as it was
pub leaves_lent : {A : Type 0} (refusal : Refusal) {number : ℕ} (before values : A) → number_of refusal ≡ number → before ≡ afterwards number before values
leaves_lent refusal {number} before values e = kept number before values (λ z. numbered refusal (rw e z))

-- a refusal of the first checks is given before the others
pub refused_first : (refusal : Refusal) {number first : ℕ} (second : ℕ) → number_of refusal ≡ first → number ≡ first → number ≡ (first then second)
refused_first refusal second told e = then_kept second e (λ z. numbered refusal (told ∙ sym e ∙ z))
