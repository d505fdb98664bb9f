-- The laws of a turn of the loop that compares gates, for one list, over the choice. Assumes nothing.
use mathlib.Core.Path.{◌≡◌, refl, sym, ap, ◌∙◌}
use mathlib.Core.Bool.{Bool, true, false, ◌&&◌}
use mathlib.Core.List.{List, []}
use Prim.Native.Nat.{ℕ, ◌+◌, ◌<◌, ◌≤◌}
use native.Mathlib.Nat.{le_antisymm}
use native.Mathlib.Numerals.{add-one}
use native.Mathlib.Omega.{arith}
use borrow.Author.Tests.{eq-eqb, ne_eqb}
use lib.Dec.{eqb}
use lib.ListN.{length, length-set, set, get_or}
use Rattle.arithmetic.proofs.Places.{table_at, table_ext, table_of, table_set}
use Rattle.tally.specs.Gates.{is_measured, echo_of}
use Rattle.tally.specs.Tally.{contributes}
use Rattle.extremes.specs.Extremes.{chosen_over, chosen}

module _ (ledger values : List ℕ) (choice : ℕ → ℕ → ℕ) where
  -- a gate that does not contribute to the cell changes nothing there
  passed_over : (k held cell : ℕ) → contributes ledger values [] cell k ≡ false → chosen_over ledger values choice (k + 1) held cell ≡ chosen_over ledger values choice k held cell
  unfolding chosen_over
  passed_over k held cell e = rw (add-one, e)

  pub in_its_cell : (k held : ℕ) → is_measured (get_or values k 0) ≡ true → chosen_over ledger values choice (k + 1) held (get_or ledger k 0) ≡ choice (chosen_over ledger values choice k held (get_or ledger k 0)) (echo_of (get_or values k 0))
  unfolding chosen_over contributes
  in_its_cell k held m = rw (add-one, eq-eqb (get_or ledger k 0) (get_or ledger k 0) refl, m)

  pub in_no_other : (k held other : ℕ) → (other ≡ get_or ledger k 0 → ⊥) → chosen_over ledger values choice (k + 1) held other ≡ chosen_over ledger values choice k held other
  unfolding contributes
  in_no_other k held other r = passed_over k held other (rw (ne_eqb (get_or ledger k 0) other (λ e. r (sym e))))

  pub not_unmeasured : (k held cell : ℕ) → is_measured (get_or values k 0) ≡ false → chosen_over ledger values choice (k + 1) held cell ≡ chosen_over ledger values choice k held cell
  unfolding contributes
  not_unmeasured k held cell h = passed_over k held cell (rw h (never (eqb (get_or ledger k 0) cell)))
    where
      never : (t : Bool) → (t && false) ≡ false
      never true = refl
      never false = refl

-- the list holds for each cell the choice over the first n gates, from what it held
pub record ChosenAfter (ledger values : List ℕ) (choice : ℕ → ℕ → ℕ) (n : ℕ) (held l : List ℕ) : Type 0 where
  pub cells_length : length l ≡ length held
  pub cell_choices : l ≡ chosen ledger values choice n held

-- before the first gate
pub chosen_none : (ledger values : List ℕ) (choice : ℕ → ℕ → ℕ) (held : List ℕ) → held ≡ chosen ledger values choice 0 held
unfolding chosen chosen_over
chosen_none ledger values choice held = table_of _ (length held) held refl (λ cell h. refl)

pub before_first : {ledger values : List ℕ} {choice : ℕ → ℕ → ℕ} {held : List ℕ} → ChosenAfter ledger values choice 0 held held
before_first = record { cells_length = refl; cell_choices = chosen_none _ _ _ _ }

module _ {ledger values : List ℕ} {choice : ℕ → ℕ → ℕ} {k : ℕ} {held l : List ℕ} (s : ChosenAfter ledger values choice k held l) where
  nothing_chosen : ((cell : ℕ) → cell < length held → chosen_over ledger values choice (k + 1) (get_or held cell 0) cell ≡ chosen_over ledger values choice k (get_or held cell 0) cell) → ChosenAfter ledger values choice (k + 1) held l
  unfolding chosen
  nothing_chosen same = record {
    cells_length = s.cells_length;
    cell_choices = s.cell_choices ∙ table_ext _ _ (length held) (λ cell h. sym (same cell h));
  }

  pub no_cell : length held ≤ get_or ledger k 0 → ChosenAfter ledger values choice (k + 1) held l
  no_cell h = nothing_chosen (λ cell i. in_no_other ledger values choice k (get_or held cell 0) cell (λ e. omega arith))

  pub unmeasured : is_measured (get_or values k 0) ≡ false → ChosenAfter ledger values choice (k + 1) held l
  unmeasured h = nothing_chosen (λ cell i. not_unmeasured ledger values choice k (get_or held cell 0) cell h)

  -- a measured gate of a cell
  pub measured : {echo v : ℕ} → get_or ledger k 0 < length held → is_measured (get_or values k 0) ≡ true → echo ≡ echo_of (get_or values k 0) → v ≡ choice (get_or l (get_or ledger k 0) 0) echo → ChosenAfter ledger values choice (k + 1) held (set l (get_or ledger k 0) v)
  unfolding chosen
  measured {echo} {v} h m p is =
      let cell = get_or ledger k 0 in
      let now-there : get_or l cell 0 ≡ chosen_over ledger values choice k (get_or held cell 0) cell = ap (λ (list : List ℕ). get_or list cell 0) s.cell_choices ∙ table_at _ (length held) cell h in
      record {
        cells_length = length-set l cell v ∙ s.cells_length;
        cell_choices =
            ap (λ (list : List ℕ). set list cell v) s.cell_choices
            ∙ table_set _ _ (length held) cell v
            (is ∙ rw (now-there, p) (sym (in_its_cell ledger values choice k (get_or held cell 0) m)))
            (λ other b r. sym (in_no_other ledger values choice k (get_or held other 0) other r));
      }

  -- after the last gate
  pub after_last : k ≤ length ledger → length ledger ≤ k → l ≡ chosen ledger values choice (length ledger) held
  after_last h i = s.cell_choices ∙ rw (le_antisymm h i)
