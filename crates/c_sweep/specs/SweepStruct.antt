-- The state of a sweep as the struct of signed numbers in which it crosses to C, a list of fifteen numbers. Assumes nothing.
use Rattle.std.specs.Prelude.{Bool, not, cond, List, [], ◌∷◌, ◌++◌, ℤ, pos, get_or}
use Rattle.refusal.specs.Unsigned.{unsigned32}
use Rattle.c_structs.specs.Structs.{is_number, head_of, head_numbers}
use Rattle.sweep.specs.declared.Sweep.{Sweep}

-- the scan's thirteen numbers, the rays taken, and 0 for a sweep that is not closed; any other number is closed
unfoldable pub sweep_of : List ℤ → Sweep
sweep_of numbers = record {
  head = head_of numbers;
  taken = unsigned32 (get_or numbers 13 (pos 0));
  closed = not (is_number 0 (get_or numbers 14 (pos 0)));
}

unfoldable pub closed_number : Bool → ℤ
closed_number closed = cond closed (pos 1) (pos 0)

unfoldable pub sweep_numbers : Sweep → List ℤ
sweep_numbers sweep = head_numbers sweep.head ++ pos sweep.taken ∷ closed_number sweep.closed ∷ []
