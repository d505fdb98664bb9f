-- Document 02, T-06: what ties the least and the greatest value of a cell to its gates. Quality plays no part in whether a gate contributes, so
-- that no list of qualities is given. Assumes nothing.
use Rattle.std.specs.Prelude.{true, List, [], ◌≡◌, ℕ, ◌<◌, ◌≤◌, length, get_or}
use Rattle.tally.specs.Gates.{echo_of}
use Rattle.tally.specs.Tally.{contributes, count_of}
use Rattle.extremes.specs.Extremes.{least_of, greatest_of}

module _ (ledger values : List ℕ) (cell : ℕ) where
  -- one of the first n gates contributes to the cell and has this value
  pub record ValueOfGate (n value : ℕ) : Type 0 where
    pub gate : ℕ
    pub is_gate : gate < n
    pub is_in_cell : contributes ledger values [] cell gate ≡ true
    pub is_value : value ≡ echo_of (get_or values gate 0)

  -- no measured gate lies in the cell, and it has 65,535 and 0
  pub record EmptyCell (qualities : List ℕ) (least greatest : ℕ) : Type 0 where
    pub no_count : count_of ledger values qualities cell ≡ 0
    pub no_least : least ≡ 65535
    pub no_greatest : greatest ≡ 0

-- each of the two is the value of a gate of the cell, or the cell is empty
pub data OfGates (ledger values qualities : List ℕ) (cell least greatest : ℕ) : Type 0 where
  of_none : EmptyCell ledger values cell qualities least greatest → OfGates ledger values qualities cell least greatest
  of_some : ValueOfGate ledger values cell (length ledger) least → ValueOfGate ledger values cell (length ledger) greatest → OfGates ledger values qualities cell least greatest

-- what is promised of the two numbers of a cell
pub record ExtremesOfGates (ledger values qualities : List ℕ) (cell least greatest : ℕ) : Type 0 where
  pub least_is : least ≡ least_of ledger values cell
  pub greatest_is : greatest ≡ greatest_of ledger values cell
  pub of_gates : OfGates ledger values qualities cell least greatest
  -- no value of a gate of the cell is below the one or above the other
  pub between : (k : ℕ) → k < length ledger → contributes ledger values [] cell k ≡ true → (least ≤ echo_of (get_or values k 0)) × (echo_of (get_or values k 0) ≤ greatest)
