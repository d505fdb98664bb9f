-- What an operation of a sweep leaves in what C lends. Assumes nothing.
use mathlib.Core.List.{List}
use mathlib.Core.Path.{◌≡◌, refl}
use Prim.Native.Nat.{ℕ, zero, suc}
use lib.IntN.{ℤ}
use Rattle.refusal.specs.Answer.{answered, left_by, afterwards}
use Rattle.refusal.proofs.AnswerLaws.{left_by_lem}
use Rattle.sweep.specs.declared.Sweep.{Sweep}
use Rattle.c_sweep.specs.SweepStruct.{sweep_numbers}
use Rattle.c_sweep.specs.LentSweep.{WithSweep}

pub sweep_left_lem : (number : ℕ) (before : List ℤ) (sweep : Sweep) → left_by before (answered number (sweep_numbers sweep)) ≡ afterwards number before (sweep_numbers sweep)
sweep_left_lem number before sweep = left_by_lem number before (sweep_numbers sweep)

-- a refusal leaves the state and the lists, and otherwise both are written
pub both_left : {Lists : Type 0} (number : ℕ) (before after : WithSweep Lists) → record { sweep = afterwards number before.sweep after.sweep; lists = afterwards number before.lists after.lists } ≡ afterwards number before after
unfolding afterwards
both_left zero before after = refl
both_left (suc number) before after = refl
