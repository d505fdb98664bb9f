-- What every call answers and leaves, whatever it is asked: document 01, demand 1. A refusal number of 0 is none. Assumes nothing.
use Rattle.std.specs.Prelude.{◌≡◌, ℕ, zero, suc}
use denote.Triple.Both.{Both}

-- document 01's values, or its number of a refusal
pub data Answer (A : Type 0) : Type 0 where
  gives : A → Answer A
  refuses : ℕ → Answer A

-- a refusal gives its number only
unfoldable pub answered : {A : Type 0} → ℕ → A → Answer A
answered zero values = gives values
answered (suc number) values = refuses (suc number)

-- an answer as a number, 0 for done, and what is lent for its values, afterwards
unfoldable pub number_in : {A : Type 0} → Answer A → ℕ
number_in (gives values) = 0
number_in (refuses number) = number

unfoldable pub left_by : {A : Type 0} → A → Answer A → A
left_by before (gives values) = values
left_by before (refuses number) = before

-- everything that was lent, afterwards: a refusal leaves it as it came in
unfoldable pub afterwards : {A : Type 0} → ℕ → A → A → A
afterwards zero before after = after
afterwards (suc number) before after = before

-- a refusal's number, the values that are due where there is none, what is lent for them, and the answer as a number: 0 for done
pub record Answers {A : Type 0} (number : ℕ) (values : A) (lent : Both A A) (answer : ℕ) : Type 0 where
  pub the_number : answer ≡ number
  pub the_lent : lent.exit ≡ afterwards number lent.entry values
