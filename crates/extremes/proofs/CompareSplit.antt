-- Gates that are joined end to end are compared at once, or one part after the other. Assumes nothing.
use mathlib.Core.Path.{◌≡◌, refl, sym, ap, ◌∙◌}
use mathlib.Core.List.{List, ◌++◌}
use Prim.Native.Nat.{ℕ, zero, suc, ◌+◌, ◌≤◌}
use native.Mathlib.Nat.{add-zero, add-suc}
use native.Mathlib.Omega.{arith}
use lib.ListN.{length, get_or, length-append, get_or-append}
use lib.Seq.{get_or-append-add}
use Rattle.arithmetic.specs.Places.{table}
use Rattle.arithmetic.proofs.Places.{table_length, table_at, table_ext}
use Rattle.tally.specs.Tally.{contributes}
use Rattle.extremes.specs.LentExtremes.{Extremes}
use Rattle.extremes.specs.Extremes.{lesser, greater, chosen_over, chosen, compared}

module _ (ledger values ledger' values' : List ℕ) (v : length values ≡ length ledger) (choice : ℕ → ℕ → ℕ) where
  -- the gates in front
  front : (n held cell : ℕ) → n ≤ length ledger → chosen_over (ledger ++ ledger') (values ++ values') choice n held cell ≡ chosen_over ledger values choice n held cell
  unfolding chosen_over contributes
  front zero held cell h = refl
  front (suc k) held cell h =
      rw (get_or-append ledger ledger' 0 k (omega arith), get_or-append values values' 0 k (omega arith), front k held cell (omega arith))

  -- those behind them go on from there
  back : (n held cell : ℕ) → chosen_over (ledger ++ ledger') (values ++ values') choice (length ledger + n) held cell ≡ chosen_over ledger' values' choice n (chosen_over ledger values choice (length ledger) held cell) cell
  unfolding chosen_over contributes
  back zero held cell = rw (add-zero (length ledger)) (front (length ledger) held cell (omega arith))
  back (suc k) held cell =
      rw (add-suc (length ledger) k, get_or-append-add ledger ledger' k 0, ap (λ (m : ℕ). get_or (values ++ values') (m + k) 0) (sym v) ∙ get_or-append-add values values' k 0, back k held cell)

  chosen_joined : (held : List ℕ) → chosen (ledger ++ ledger') (values ++ values') choice (length (ledger ++ ledger')) held ≡ chosen ledger' values' choice (length ledger') (chosen ledger values choice (length ledger) held)
  unfolding chosen
  chosen_joined held =
      let n = length held in
      let first : ℕ → ℕ = λ cell. chosen_over ledger values choice (length ledger) (get_or held cell 0) cell in
      table_ext _ _ n (λ cell h.
      ap (λ (m : ℕ). chosen_over (ledger ++ ledger') (values ++ values') choice m (get_or held cell 0) cell) (length-append ledger ledger')
      ∙ back (length ledger') (get_or held cell 0) cell
      ∙ ap (λ (m : ℕ). chosen_over ledger' values' choice (length ledger') m cell) (sym (table_at first n cell h)))
      ∙ ap (table _) (sym (table_length first n))

pub compared_joined : (ledger values ledger' values' : List ℕ) → length values ≡ length ledger → (extremes : Extremes) → compared (ledger ++ ledger') (values ++ values') extremes ≡ compared ledger' values' (compared ledger values extremes)
unfolding compared
compared_joined ledger values ledger' values' v extremes i = record {
  least = chosen_joined ledger values ledger' values' v lesser extremes.least i;
  greatest = chosen_joined ledger values ledger' values' v greater extremes.greatest i;
}
