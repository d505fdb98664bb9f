-- A call's answer as C is told it: its number, and what is left of what is lent. Assumes nothing.
use mathlib.Core.Path.{◌≡◌, sym, ap, ◌∙◌}
use Prim.Native.Nat.{ℕ}
use denote.Triple.Both.{Both}
use Rattle.std.specs.Prelude.{Result, Ok, Err}
use Rattle.refusal.specs.Answer.{answered, number_in, afterwards, Answers}
use Rattle.refusal.specs.Numbered.{number_of, refusal_in, answer_of}
use Rattle.refusal.specs.declared.numbered.Refusal.{Refusal}
use Rattle.refusal.proofs.AnswerLaws.{given_is, refused_is, kept, filled, filled_is, number_in_lem}
use Rattle.refusal.proofs.NumberedLaws.{answer_number}

-- the number of an answer is the one that is due
pub number_told : {A : Type 0} (answer : Result A Refusal) (number : ℕ) (values : A) → answer_of answer ≡ answered number values → refusal_in answer ≡ number
number_told answer number values e = sym (answer_number answer) ∙ ap number_in e ∙ number_in_lem number values

-- the other call's number and values, and what is due here of what is lent
module _ {A B : Type 0} (number : ℕ) (values : A) {due : B} {lent : Both B B} where
  -- ---- it refused

  pub refused : (refusal : Refusal) {answer : ℕ} → answer_of (Err refusal) ≡ answered number values → answer ≡ number_of refusal → lent.exit ≡ lent.entry → Answers number due lent answer
  refused refusal e same left = let is = refused_is number values e in record {
    the_number = same ∙ is.0;
    the_lent = left ∙ kept number lent.entry due is.1;
  }

  -- ---- it is done

  pub done : (given : A) → answer_of (Ok given) ≡ answered number values → (given ≡ values → lent.exit ≡ due) → Answers number due lent 0
  done given e left = let is = given_is number e in record {
    the_number = sym is.0;
    the_lent = filled lent.entry is.0 (left is.1);
  }

-- ---- what the other call left of what was lent to it

module _ {A B : Type 0} (number : ℕ) (values : A) (before left after : B) where
  pub as_it_was : (refusal : Refusal) → answer_of (Err refusal) ≡ answered number values → left ≡ afterwards number before after → left ≡ before
  as_it_was refusal e left_by = left_by ∙ sym (kept number before after (refused_is number values e).1)

  pub as_due : (given : A) → answer_of (Ok given) ≡ answered number values → left ≡ afterwards number before after → left ≡ after
  as_due given e left_by = filled_is before (given_is number e).0 left_by
