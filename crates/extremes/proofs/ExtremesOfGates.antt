-- Document 02, T-06: the least and the greatest value of a cell are values of its gates, or the cell is empty, and no value of its gates lies beyond
-- them. Assumes nothing.
use mathlib.Core.Path.{◌≡◌, refl, sym, ap, ◌∙◌}
use mathlib.Core.Bool.{Bool, true, false, cond}
use mathlib.Core.List.{List, []}
use Prim.Native.Nat.{ℕ, zero, suc, ◌<◌, ◌≤◌, zero-le}
use native.Mathlib.Nat.{le_refl, le_trans, not-suc-le-zero}
use native.Mathlib.Omega.{arith}
use borrow.Author.Tests.{le-leb, lt-leb, leb-true, leb-false}
use lib.Dec.{eqb, leb}
use lib.ListN.{length, get_or}
use Rattle.arithmetic.proofs.Places.{before_or_after, sum_ext, sum_zero}
use Rattle.arithmetic.proofs.Test.{and_true}
use Rattle.tally.specs.Gates.{is_measured, echo_of}
use Rattle.tally.specs.Tally.{contributes, sum_over, count_of}
use Rattle.tally.proofs.TallyWidth.{echo_most}
use Rattle.extremes.specs.Extremes.{lesser, greater, empty_least, empty_greatest, chosen_over, least_of, greatest_of}
use Rattle.extremes.specs.ExtremesOfGates.{ValueOfGate, OfGates, of_none, of_some, ExtremesOfGates}

-- ---- the two choices

lesser_most : (a b : ℕ) → (lesser a b ≤ a) × (lesser a b ≤ b)
unfolding lesser
lesser_most a b = go (leb a b) refl
  where
    go : (t : Bool) → leb a b ≡ t → (cond t a b ≤ a) × (cond t a b ≤ b)
    go true e = (le_refl a, leb-true a b e)
    go false e = (omega (arith, leb-false a b e), le_refl b)

greater_least : (a b : ℕ) → (a ≤ greater a b) × (b ≤ greater a b)
unfolding greater
greater_least a b = go (leb a b) refl
  where
    go : (t : Bool) → leb a b ≡ t → (a ≤ cond t b a) × (b ≤ cond t b a)
    go true e = (leb-true a b e, le_refl b)
    go false e = (le_refl a, omega (arith, leb-false a b e))

-- a choice is one of its two numbers
data OneOf (x a b : ℕ) : Type 0 where
  the_first : x ≡ a → OneOf x a b
  the_second : x ≡ b → OneOf x a b

lesser_one : (a b : ℕ) → OneOf (lesser a b) a b
unfolding lesser
lesser_one a b = go (leb a b)
  where
    go : (t : Bool) → OneOf (cond t a b) a b
    go true = the_first refl
    go false = the_second refl

greater_one : (a b : ℕ) → OneOf (greater a b) a b
unfolding greater
greater_one a b = go (leb a b)
  where
    go : (t : Bool) → OneOf (cond t b a) a b
    go true = the_second refl
    go false = the_first refl

-- ---- over the first n gates

module _ (ledger values : List ℕ) (cell : ℕ) where
  -- no gate yet, or the value of one of them
  data FoundOver (start n x : ℕ) : Type 0 where
    found_none : ((k : ℕ) → k < n → contributes ledger values [] cell k ≡ false) → x ≡ start → FoundOver start n x
    found_one : ValueOfGate ledger values cell n x → FoundOver start n x

  one_gate_more : {n x : ℕ} → ValueOfGate ledger values cell n x → ValueOfGate ledger values cell (suc n) x
  one_gate_more found = record { gate = found.gate; is_gate = omega (arith, found.is_gate); is_in_cell = found.is_in_cell; is_value = found.is_value }

  this_gate : {n x : ℕ} → contributes ledger values [] cell n ≡ true → x ≡ echo_of (get_or values n 0) → ValueOfGate ledger values cell (suc n) x
  this_gate {n} e is = record { gate = n; is_gate = omega arith; is_in_cell = e; is_value = is }

  module _ (choice : ℕ → ℕ → ℕ) (start : ℕ) (one : (a b : ℕ) → OneOf (choice a b) a b) (first : (k : ℕ) → contributes ledger values [] cell k ≡ true → choice start (echo_of (get_or values k 0)) ≡ echo_of (get_or values k 0)) where
    chosen_by : (n before : ℕ) → FoundOver start n before → contributes ledger values [] cell n ≡ true → OneOf (choice before (echo_of (get_or values n 0))) before (echo_of (get_or values n 0)) → FoundOver start (suc n) (choice before (echo_of (get_or values n 0)))
    chosen_by n before (found_none none e) here which = found_one (this_gate here (ap (λ (x : ℕ). choice x (echo_of (get_or values n 0))) e ∙ first n here))
    chosen_by n before (found_one found) here (the_first e) = found_one (rw e (one_gate_more found))
    chosen_by n before (found_one found) here (the_second e) = found_one (this_gate here e)

    kept : (n before : ℕ) → FoundOver start n before → contributes ledger values [] cell n ≡ false → FoundOver start (suc n) before
    kept n before (found_none none e) here = found_none (λ k h. before_or_after k n (none k) (λ l. ap (contributes ledger values [] cell) (same k l h) ∙ here)) e
      where
        same : (k : ℕ) → n ≤ k → k < suc n → k ≡ n
        same k l h = omega arith
    kept n before (found_one found) here = found_one (one_gate_more found)

    found_over : (n : ℕ) → FoundOver start n (chosen_over ledger values choice n start cell)
    unfolding chosen_over
    found_over zero = found_none (λ k h. absurd (not-suc-le-zero h)) refl
    found_over (suc n) = go (contributes ledger values [] cell n) refl (chosen_over ledger values choice n start cell) (found_over n)
      where
        go : (t : Bool) → contributes ledger values [] cell n ≡ t → (before : ℕ) → FoundOver start n before → FoundOver start (suc n) (cond t (choice before (echo_of (get_or values n 0))) before)
        go true e before found = chosen_by n before found e (one before (echo_of (get_or values n 0)))
        go false e before found = kept n before found e

  -- ---- each value that was compared lies on the right side

  -- one of the first n + 1 gates is one of the first n, or gate n
  last_or_before : {P : Type 0} (n k : ℕ) → k < suc n → (k < n → P) → (k ≡ n → P) → P
  last_or_before n k h f g = before_or_after k n f (λ l. g (omega arith))

  not_both : {n k : ℕ} → contributes ledger values [] cell k ≡ true → contributes ledger values [] cell n ≡ false → k ≡ n → ⊥
  not_both {n} {k} e f same = let wrong : true ≡ false = sym e ∙ ap (contributes ledger values [] cell) same ∙ f in let z : ◌≡◌ {A = ℕ} 0 1 = cc in omega arith

  least_below : (n start k : ℕ) → k < n → contributes ledger values [] cell k ≡ true → chosen_over ledger values lesser n start cell ≤ echo_of (get_or values k 0)
  unfolding chosen_over
  least_below zero start k h e = absurd (not-suc-le-zero h)
  least_below (suc n) start k h e = go (contributes ledger values [] cell n) refl (chosen_over ledger values lesser n start cell) (λ l. least_below n start k l e)
    where
      go : (t : Bool) → contributes ledger values [] cell n ≡ t → (before : ℕ) → (k < n → before ≤ echo_of (get_or values k 0)) → cond t (lesser before (echo_of (get_or values n 0))) before ≤ echo_of (get_or values k 0)
      go true here before below =
          let most = lesser_most before (echo_of (get_or values n 0)) in
          last_or_before n k h (λ l. le_trans most.0 (below l)) (λ same. rw same most.1)
      go false here before below = last_or_before n k h below (λ same. absurd (not_both e here same))

  greatest_above : (n start k : ℕ) → k < n → contributes ledger values [] cell k ≡ true → echo_of (get_or values k 0) ≤ chosen_over ledger values greater n start cell
  unfolding chosen_over
  greatest_above zero start k h e = absurd (not-suc-le-zero h)
  greatest_above (suc n) start k h e = go (contributes ledger values [] cell n) refl (chosen_over ledger values greater n start cell) (λ l. greatest_above n start k l e)
    where
      go : (t : Bool) → contributes ledger values [] cell n ≡ t → (before : ℕ) → (k < n → echo_of (get_or values k 0) ≤ before) → echo_of (get_or values k 0) ≤ cond t (greater before (echo_of (get_or values n 0))) before
      go true here before above =
          let least = greater_least before (echo_of (get_or values n 0)) in
          last_or_before n k h (λ l. le_trans (above l) least.0) (λ same. rw same least.1)
      go false here before above = last_or_before n k h above (λ same. absurd (not_both e here same))

  -- ---- all gates, with values of 16 bits

  module _ (qualities : List ℕ) (small : (k : ℕ) → get_or values k 0 ≤ 65535) where
    its_measured : (k : ℕ) → contributes ledger values [] cell k ≡ true → is_measured (get_or values k 0) ≡ true
    unfolding contributes
    its_measured k e = (and_true (eqb (get_or ledger k 0) cell) (is_measured (get_or values k 0)) e).1

    first_least : (k : ℕ) → contributes ledger values [] cell k ≡ true → lesser empty_least (echo_of (get_or values k 0)) ≡ echo_of (get_or values k 0)
    unfolding lesser
    first_least k e = rw (lt-leb 65535 (echo_of (get_or values k 0)) (omega (arith, echo_most (get_or values k 0) (small k) (its_measured k e))))

    first_greatest : (k : ℕ) → contributes ledger values [] cell k ≡ true → greater empty_greatest (echo_of (get_or values k 0)) ≡ echo_of (get_or values k 0)
    unfolding greater
    first_greatest k e = rw (le-leb 0 (echo_of (get_or values k 0)) zero-le)

    -- quality plays no part in whether a gate contributes
    with_qualities : (k : ℕ) → contributes ledger values qualities cell k ≡ contributes ledger values [] cell k
    unfolding contributes
    with_qualities k = refl

    none_counted : ((k : ℕ) → k < length ledger → contributes ledger values [] cell k ≡ false) → count_of ledger values qualities cell ≡ 0
    unfolding count_of sum_over
    none_counted none = sum_ext _ _ (length ledger) (λ k h. rw (with_qualities k ∙ none k h)) ∙ sum_zero (length ledger)

    both : FoundOver empty_least (length ledger) (least_of ledger values cell) → FoundOver empty_greatest (length ledger) (greatest_of ledger values cell) → OfGates ledger values qualities cell (least_of ledger values cell) (greatest_of ledger values cell)
    both (found_none none l) (found_none other g) = of_none (record { no_count = none_counted none; no_least = l; no_greatest = g })
    both (found_one l) (found_one g) = of_some l g
    both (found_none none l) (found_one g) = absurd (let wrong : true ≡ false = sym g.is_in_cell ∙ none g.gate g.is_gate in let z : ◌≡◌ {A = ℕ} 0 1 = cc in omega arith)
    both (found_one l) (found_none none g) = absurd (let wrong : true ≡ false = sym l.is_in_cell ∙ none l.gate l.is_gate in let z : ◌≡◌ {A = ℕ} 0 1 = cc in omega arith)

    pub extremes_of_gates : ExtremesOfGates ledger values qualities cell (least_of ledger values cell) (greatest_of ledger values cell)
    unfolding least_of greatest_of
    extremes_of_gates = record {
      least_is = refl;
      greatest_is = refl;
      of_gates = both (found_over lesser empty_least lesser_one first_least (length ledger)) (found_over greater empty_greatest greater_one first_greatest (length ledger));
      between = λ k h e. (least_below (length ledger) empty_least k h e, greatest_above (length ledger) empty_greatest k h e);
    }
