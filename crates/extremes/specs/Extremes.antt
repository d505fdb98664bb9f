-- Document 02, T-06: the least and the greatest value of a cell, over the measured gates whose ledger entry names it, no echo counting as 0.
-- Quality plays no part. Assumes nothing.
use Rattle.std.specs.Prelude.{cond, List, [], ℕ, zero, suc, leb, length, get_or, replicate}
use Rattle.arithmetic.specs.Places.{table}
use Rattle.tally.specs.Gates.{echo_of}
use Rattle.tally.specs.Tally.{contributes}
use Rattle.extremes.specs.LentExtremes.{Extremes}

-- ---- a choice between two numbers

unfoldable pub lesser : ℕ → ℕ → ℕ
lesser a b = cond (leb a b) a b

unfoldable pub greater : ℕ → ℕ → ℕ
greater a b = cond (leb a b) b a

-- ---- one cell

-- "an empty cell has 65,535 and 0"
abbrev pub empty_least : ℕ
empty_least = 65535

abbrev pub empty_greatest : ℕ
empty_greatest = 0

module _ (ledger values : List ℕ) where
  -- what a number of the cell becomes by the first n gates: with each that contributes, the choice between it and the gate's value.
  -- Quality plays no part in whether a gate contributes, so that no list of qualities is given.
  unfoldable pub chosen_over : (ℕ → ℕ → ℕ) → ℕ → ℕ → ℕ → ℕ
  chosen_over choice zero held cell = held
  chosen_over choice (suc k) held cell =
      cond (contributes ledger values [] cell k) (choice (chosen_over choice k held cell) (echo_of (get_or values k 0))) (chosen_over choice k held cell)

  unfoldable pub least_of : ℕ → ℕ
  least_of cell = chosen_over lesser (length ledger) empty_least cell

  unfoldable pub greatest_of : ℕ → ℕ
  greatest_of cell = chosen_over greater (length ledger) empty_greatest cell

-- ---- of so many cells: tallies start from nothing

unfoldable pub tallied_extremes : List ℕ → List ℕ → ℕ → Extremes
tallied_extremes ledger values cells = record {
  least = table (least_of ledger values) cells;
  greatest = table (greatest_of ledger values) cells;
}

unfoldable pub emptied : Extremes → Extremes
emptied extremes = record {
  least = replicate (length extremes.least) empty_least;
  greatest = replicate (length extremes.greatest) empty_greatest;
}

-- ---- compared with what the lists hold

-- each number of a list, by the first n gates
unfoldable pub chosen : List ℕ → List ℕ → (ℕ → ℕ → ℕ) → ℕ → List ℕ → List ℕ
chosen ledger values choice n held = table (λ cell. chosen_over ledger values choice n (get_or held cell 0) cell) (length held)

-- all gates
unfoldable pub compared : List ℕ → List ℕ → Extremes → Extremes
compared ledger values extremes = record {
  least = chosen ledger values lesser (length ledger) extremes.least;
  greatest = chosen ledger values greater (length ledger) extremes.greatest;
}
