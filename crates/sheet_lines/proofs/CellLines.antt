-- The lines of the cells, one cell more at a time. Assumes nothing.
use mathlib.Core.Path.{◌≡◌, refl}
use mathlib.Core.List.{List, ◌∷◌, ◌++◌, append-nil}
use Prim.Native.Nat.{ℕ, zero, suc, ◌+◌}
use native.Mathlib.Numerals.{add-one}
use borrow.Author.Tests.{eq-eqb, ne_eqb}
use native.Mathlib.Omega.{arith}
use lib.ListN.{length, get_or}
use Rattle.std.specs.List.{sum}
use Rattle.arithmetic.specs.Places.{sum_to}
use Rattle.std.proofs.lemmas.List.Recursion.{is_sum_by}
use Rattle.sheet_lines.specs.SheetLines.{cell_line, cell_lines}

module _ (columns : ℕ) (counts means qualities : List ℕ) (cell : ℕ) where
  -- a cell without a count has no line
  pub cell_empty : get_or counts cell 0 ≡ 0 → cell_lines columns counts means qualities cell ≡ cell_lines columns counts means qualities (cell + 1)
  unfolding cell_lines
  cell_empty e = rw (add-one cell, eq-eqb (get_or counts cell 0) 0 e, append-nil)

  pub cell_counted : (get_or counts cell 0 ≡ 0 → ⊥) → cell_lines columns counts means qualities cell ++ cell_line columns cell (get_or means cell 0) (get_or qualities cell 0) (get_or counts cell 0) ≡ cell_lines columns counts means qualities (cell + 1)
  unfolding cell_lines
  cell_counted e = rw (add-one cell, ne_eqb (get_or counts cell 0) 0 e)

-- ---- the sum of a list, place by place

sum_first : (x : ℕ) (xs : List ℕ) (n : ℕ) → sum_to (λ k. get_or (x ∷ xs) k 0) (suc n) ≡ x + sum_to (λ k. get_or xs k 0) n
unfolding sum_to
sum_first x xs zero = omega arith
sum_first x xs (suc n) = omega (arith, sum_first x xs n)

pub sum_places : (xs : List ℕ) → sum_to (λ k. get_or xs k 0) (length xs) ≡ sum xs
unfolding sum_to
sum_places xs =
    is_sum_by (λ (l : List ℕ). sum_to (λ k. get_or l k 0) (length l)) (λ x. x) refl (λ x l. sum_first x l (length l)) xs
