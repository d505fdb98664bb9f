-- What the function that compares gates asks of its lists. Every accepted scan and every accepted group of rays meets it. Assumes nothing.
use Rattle.std.specs.Prelude.{List, ◌≡◌, ℕ, length}
use Rattle.extremes.specs.LentExtremes.{Extremes}

-- a value for each gate, a place for each cell in both lists
pub record Comparable (ledger values : List ℕ) (extremes : Extremes) : Type 0 where
  pub values_length : length values ≡ length ledger
  pub greatest_length : length extremes.greatest ≡ length extremes.least
