use mathlib.Core.Path.{◌≡◌}
use mathlib.Core.Bool.{true}
use Prim.Native.Nat.{◌<◌, ◌^◌}
use lib.ListN.{drop}
use Rattle.arithmetic.specs.Places.{all_of}
use Rattle.word_value.specs.WordValue.{is_digit, value_from, value_of}
use Rattle.word_value.proofs.value_of.Given as goal

abbrev pub invariant-loop-b : goal.invariant-loop-b
invariant-loop-b l =
    (all_of is_digit (drop l.b-index l.word) ≡ true) × (value_from l.value (drop l.b-index l.word) ≡ value_of l.word) × (l.value < 10 ^ l.b-index)
