-- Gates that are compared with the pair of an empty cell are tallied from nothing. Assumes nothing.
use mathlib.Core.List.{List, []}
use mathlib.Core.Path.{◌≡◌, sym, ap, ◌∙◌}
use Prim.Native.Nat.{ℕ}
use lib.ListN.{length, replicate, length-replicate, get_or-replicate}
use Rattle.arithmetic.specs.Places.{table}
use Rattle.arithmetic.proofs.Places.{table_ext}
use Rattle.extremes.specs.LentExtremes.{Extremes}
use Rattle.extremes.specs.Extremes.{lesser, greater, empty_least, empty_greatest, chosen_over, least_of, greatest_of, tallied_extremes, emptied, chosen, compared}
use Rattle.extremes.proofs.CompareTurn.{chosen_none}

module _ (ledger values : List ℕ) where
  chosen_from : (choice : ℕ → ℕ → ℕ) (start n : ℕ) {cells : ℕ} → n ≡ cells → chosen ledger values choice (length ledger) (replicate n start) ≡ table (chosen_over ledger values choice (length ledger) start) cells
  unfolding chosen
  chosen_from choice start n {cells} e =
      ap (table _) (length-replicate n start)
      ∙ table_ext _ _ n (λ cell h. ap (λ (held : ℕ). chosen_over ledger values choice (length ledger) held cell) (get_or-replicate n cell start 0 h))
      ∙ ap (table _) e

  pub extremes_from_nothing : (extremes : Extremes) {cells : ℕ} → length extremes.least ≡ cells → length extremes.greatest ≡ cells → compared ledger values (emptied extremes) ≡ tallied_extremes ledger values cells
  unfolding compared emptied tallied_extremes least_of greatest_of
  extremes_from_nothing extremes l g i = record {
    least = chosen_from lesser empty_least _ l i;
    greatest = chosen_from greater empty_greatest _ g i;
  }

-- no gates compared
pub compared_none : (extremes : Extremes) → compared [] [] extremes ≡ extremes
unfolding compared
compared_none extremes i = record {
  least = sym (chosen_none [] [] lesser extremes.least) i;
  greatest = sym (chosen_none [] [] greater extremes.greatest) i;
}
