-- `word_value::value_of` meets its contract: after k digits the value is below 10 ^ k. Assumes nothing.
use mathlib.Core.Path.{◌≡◌, refl, sym, ◌∙◌}
use mathlib.Core.Bool.{true}
use mathlib.Core.List.{List}
use Prim.Native.Nat.{ℕ, ◌≤◌, ◌<◌, ◌^◌}
use native.Mathlib.Omega.{arith}
use lib.ListN.{length, get_or, drop}
use Rattle.arithmetic.specs.Places.{all_of}
use Rattle.word_value.specs.WordValue.{is_digit, value_of, is_natural}
use Rattle.word_value.proofs.WordLaws.{natural_parts, digit_next, digit_range, value_next, value_end, value_below, power_below}
use Rattle.word_value.proofs.value_of.Goals as goal

module _ (w : List ℕ) (k : ℕ) where
  -- fewer than 18 digits are read
  small : {value : ℕ} → is_natural w ≡ true → k < length w → value < 10 ^ k → value < 10 ^ 17
  small e h i = omega (arith, power_below k 17 (omega (arith, (natural_parts w e).2)))

  -- the next byte is a digit
  digit : k < length w → all_of is_digit (drop k w) ≡ true → (48 ≤ get_or w k 0) × (get_or w k 0 ≤ 57)
  digit h e = digit_range _ (digit_next w k h e).0

pub loop-b-init : goal.loop-b-init
unfolding value_of
loop-b-init c = ((natural_parts c.args.word.now c.requires).0, refl, omega arith)

pub overflow_mul-value : goal.overflow_mul-value
overflow_mul-value c =
    record { fits = omega (arith, small c.args.word.now c.loop-b.b-index c.requires c.loop-b-test.true c.loop-b.invariant.2) }

pub overflow_sub-b : goal.overflow_sub-b
overflow_sub-b c = (digit c.args.word.now c.loop-b.b-index c.loop-b-test.true c.loop-b.invariant.0).0

pub overflow_add-value : goal.overflow_add-value
overflow_add-value c =
    let word = c.args.word.now in
    let loop = c.loop-b in
    let h = c.loop-b-test.true in
    record { fits = omega (arith, small word loop.b-index c.requires h loop.invariant.2, digit word loop.b-index h loop.invariant.0, c.from.ensures) }

pub loop-b-preserved : goal.loop-b-preserved
loop-b-preserved c =
    let word = c.args.word.now in
    let loop = c.loop-b in
    let h = c.loop-b-test.true in (
      (digit_next word loop.b-index h loop.invariant.0).1,
      rw c.from.ensures (sym (value_next word loop.b-index loop.value h) ∙ loop.invariant.1),
      value_below loop.value loop.b-index c.from.result loop.invariant.2 (omega (arith, digit word loop.b-index h loop.invariant.0, c.from.ensures)),
    )

pub returns : goal.returns
returns c =
    let word = c.args.word.now in
    let loop = c.loop-b in
    record {
      value = sym (value_end word loop.b-index loop.value c.loop-b-test.false) ∙ loop.invariant.1;
      upper_bound = omega (arith, loop.invariant.2, power_below loop.b-index 18 (omega (arith, (natural_parts word c.requires).2)));
    }
