-- Document 01, "Ledger and cells": a mean lies between the values that it is taken over. Assumes nothing.
use mathlib.Core.Bool.{Bool, true, false, cond}
use mathlib.Core.List.{List}
use mathlib.Core.Path.{◌≡◌, refl, ap₂, ◌∙◌}
use Prim.Native.Nat.{ℕ, ◌*◌, ◌/◌, ◌<◌, ◌≤◌}
use native.Mathlib.Omega.{arith}
use borrow.Author.Tests.{eq-eqb, ne_eqb}
use lib.ListN.{length, get_or}
use Rattle.arithmetic.specs.Places.{sum_to}
use Rattle.arithmetic.proofs.Places.{sum_ext, weighted_least, weighted_most}
use Rattle.limits.specs.declared.weighting.Weighting.{Weighting}
use Rattle.limits.specs.declared.weighting.Weighting.TheVariants.{Plain, ByQuality}
use Rattle.tally.specs.Gates.{echo_of, weighted_echo}
use Rattle.tally.specs.Tally.{contributes, sum_over, count_of, quality_sum_of}
use Rattle.publish.specs.CellMeans.{weighed, divisor_of, cell_value_sum, cell_divisor, cell_mean, HasPart}
use Rattle.publish.specs.Publish.{mean_of}

-- ---- one gate's weight

-- plain: 1; by quality: the quality
weight_of : Weighting → ℕ → ℕ
weight_of Plain quality = 1
weight_of ByQuality quality = quality

-- a gate that does not contribute has no weight
weight_in : Weighting → Bool → ℕ → ℕ
weight_in weighting contributing quality = cond contributing (weight_of weighting quality) 0

weighed_is : (weighting : Weighting) (contributing : Bool) (value quality : ℕ) → cond contributing (weighed weighting value quality) 0 ≡ echo_of value * weight_in weighting contributing quality
unfolding weighed weighted_echo weight_of weight_in
weighed_is Plain true value quality = omega arith
weighed_is ByQuality true value quality = refl
weighed_is weighting false value quality = omega arith

-- a gate that has a weight has a part
weight_needs_part : (weighting : Weighting) (contributing : Bool) (quality : ℕ) → (weight_in weighting contributing quality ≡ 0 → ⊥) → (contributing ≡ true) × (weighting ≡ ByQuality → quality ≡ 0 → ⊥)
unfolding weight_of weight_in
weight_needs_part Plain true quality h = (refl, λ e z. let n : ◌≡◌ {A = ℕ} 0 1 = cc in omega arith)
weight_needs_part ByQuality true quality h = (refl, λ e. h)
weight_needs_part weighting false quality h = absurd (h refl)

-- ---- one quotient

mean_is_quotient : (valueSum divisor : ℕ) → (divisor ≡ 0 → ⊥) → mean_of valueSum divisor ≡ valueSum / divisor
unfolding mean_of
mean_is_quotient valueSum divisor h = rw (ne_eqb divisor 0 h)

divisor_not_zero : (valueSum divisor : ℕ) → (mean_of valueSum divisor ≡ 65535 → ⊥) → divisor ≡ 0 → ⊥
unfolding mean_of
divisor_not_zero valueSum divisor h e = h (rw (eq-eqb divisor 0 e))

-- ---- a cell of a tally

module _ (weighting : Weighting) (ledger values qualities : List ℕ) (cell : ℕ) where
  -- its divisor and its mean
  abbrev divisor_here : ℕ
  divisor_here = cell_divisor weighting ledger values qualities cell

  abbrev mean_here : ℕ
  mean_here = cell_mean weighting ledger values qualities cell

  -- gate k has a part in its mean
  abbrev PartHere : ℕ → Type 0
  PartHere k = HasPart weighting ledger values qualities cell k

  -- the mean is a weighted one
  weight : ℕ → ℕ
  weight k = weight_in weighting (contributes ledger values qualities cell k) (get_or qualities k 0)

  echo : ℕ → ℕ
  echo k = echo_of (get_or values k 0)

  divisor_is : divisor_here ≡ sum_to weight (length ledger)
  unfolding cell_divisor weight weight_of weight_in divisor_of count_of quality_sum_of sum_over
  divisor_is = go weighting
    where
      go : (w : Weighting) → divisor_of w (count_of ledger values qualities cell) (quality_sum_of ledger values qualities cell) ≡ sum_to (λ k. weight_in w (contributes ledger values qualities cell k) (get_or qualities k 0)) (length ledger)
      go Plain = refl
      go ByQuality = refl

  value_sum_is : cell_value_sum weighting ledger values qualities cell ≡ sum_to (λ k. echo k * weight k) (length ledger)
  unfolding cell_value_sum sum_over weight echo
  value_sum_is = sum_ext _ _ (length ledger) (λ k h. weighed_is weighting (contributes ledger values qualities cell k) (get_or values k 0) (get_or qualities k 0))

  mean_is : (divisor_here ≡ 0 → ⊥) → mean_here ≡ sum_to (λ k. echo k * weight k) (length ledger) / sum_to weight (length ledger)
  unfolding cell_mean
  mean_is h = mean_is_quotient _ _ h ∙ ap₂ (λ (x y : ℕ). x / y) value_sum_is divisor_is

  has_part : (k : ℕ) → k < length ledger → (weight k ≡ 0 → ⊥) → PartHere k
  unfolding weight
  has_part k h ne =
      let part = weight_needs_part weighting (contributes ledger values qualities cell k) (get_or qualities k 0) ne in
      record { is_gate = h; is_in_cell = part.0; has_quality = part.1 }

  -- "A mean that isn't 65,535 lies between the least and greatest contributing values, those with quality 0 left out when weighting by quality":
  -- with a divisor that is not 0, the mean is at least any number that each such value is at least
  pub mean_least : (least : ℕ) → ((k : ℕ) → PartHere k → least ≤ echo_of (get_or values k 0)) → (divisor_here ≡ 0 → ⊥) → least ≤ mean_here
  unfolding echo
  mean_least least bound h =
      rw (mean_is h) (weighted_least least echo weight (length ledger) (λ k i ne. bound k (has_part k i ne)) (λ e. h (divisor_is ∙ e)))

  -- and at most any number that each such value is at most
  pub mean_most : (greatest : ℕ) → ((k : ℕ) → PartHere k → echo_of (get_or values k 0) ≤ greatest) → (divisor_here ≡ 0 → ⊥) → mean_here ≤ greatest
  unfolding echo
  mean_most greatest bound h =
      rw (mean_is h) (weighted_most greatest echo weight (length ledger) (λ k i ne. bound k (has_part k i ne)))

  -- both, of a mean that is not 65,535
  pub mean_between : (least greatest : ℕ) → ((k : ℕ) → PartHere k → (least ≤ echo_of (get_or values k 0)) × (echo_of (get_or values k 0) ≤ greatest)) → (mean_here ≡ 65535 → ⊥) → (least ≤ mean_here) × (mean_here ≤ greatest)
  unfolding cell_mean
  mean_between least greatest bound h =
      let d = divisor_not_zero _ _ h in
      (mean_least least (λ k p. (bound k p).0) d, mean_most greatest (λ k p. (bound k p).1) d)
