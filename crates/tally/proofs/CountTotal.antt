-- Document 01, "Ledger and cells": the counts of all cells together. Assumes nothing.
use mathlib.Core.Bool.{Bool, true, false, ◌&&◌, cond}
use mathlib.Core.List.{List}
use mathlib.Core.Path.{◌≡◌, refl, sym, ◌∙◌}
use Prim.Native.Nat.{ℕ}
use borrow.Author.Tests.{eq-eqb, ne_eqb}
use lib.Dec.{eqb, ltb}
use lib.ListN.{length, get_or}
use Rattle.arithmetic.specs.Places.{sum_to}
use Rattle.arithmetic.proofs.Places.{sum_ext, sum_exchange, sum_single}
use Rattle.tally.specs.Gates.{is_measured}
use Rattle.tally.specs.Tally.{contributes, sum_over, count_of}

-- a gate adds 1 to the cell that its entry names, if that is one of the cells and the gate is measured
one_cell : (entry cells : ℕ) (measured : Bool) → sum_to (λ cell. cond (eqb entry cell && measured) 1 0) cells ≡ cond (ltb entry cells && measured) 1 0
one_cell entry cells measured =
    sum_single (λ cell. cond (eqb entry cell && measured) 1 0) entry cells (λ cell ne. rw (ne_eqb entry cell (λ e. ne (sym e))))
    ∙ rw (eq-eqb entry entry refl) (both (ltb entry cells) measured 1 0)
  where
    both : (a b : Bool) (x y : ℕ) → cond a (cond b x y) y ≡ cond (a && b) x y
    both true b x y = refl
    both false b x y = refl

-- "Each cell has a count of measured gates": over a grid of so many cells, the counts add up to the measured gates whose entry names one of the cells
pub count_total : (ledger values qualities : List ℕ) (cells : ℕ) → sum_to (count_of ledger values qualities) cells ≡ sum_to (λ k. cond (ltb (get_or ledger k 0) cells && is_measured (get_or values k 0)) 1 0) (length ledger)
unfolding count_of sum_over contributes
count_total ledger values qualities cells =
    sum_exchange (λ cell k. cond (eqb (get_or ledger k 0) cell && is_measured (get_or values k 0)) 1 0) cells (length ledger)
    ∙ sum_ext _ _ (length ledger) (λ k h. one_cell (get_or ledger k 0) cells (is_measured (get_or values k 0)))
