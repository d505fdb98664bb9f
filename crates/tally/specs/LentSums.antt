-- The lists that are lent for cells, as records, and a contract's parameters as these records. Assumes nothing.
use Rattle.std.specs.Prelude.{◌≡◌, List, ℕ}
use Rattle.std.specs.Borrow.{MutBor}
use denote.Triple.Both.{Both}
use Rattle.tally.specs.declared.lists.SumsMut.{SumsMut}
use Rattle.tally.specs.declared.lists.SumsRef.{SumsRef}
use Rattle.tally.specs.declared.lists.CellsMut.{CellsMut}

-- a number for each cell
pub record Sums : Type 0 where
  pub counts : List ℕ
  pub quality_sums : List ℕ
  pub value_sums : List ℕ
  pub weighted_sums : List ℕ

-- the published cells, a number for each
pub record Cells : Type 0 where
  pub means : List ℕ
  pub qualities : List ℕ

-- ---- what slices hold

abbrev pub sums_held : List ℕ → List ℕ → List ℕ → List ℕ → Sums
sums_held counts quality_sums value_sums weighted_sums = record {
  counts = counts;
  quality_sums = quality_sums;
  value_sums = value_sums;
  weighted_sums = weighted_sums;
}

abbrev pub cells_held : List ℕ → List ℕ → Cells
cells_held means qualities = record { means = means; qualities = qualities }

-- ---- what the structs of slices hold

abbrev pub sums_in : SumsMut → Sums
sums_in sums = sums_held sums.counts.now sums.quality_sums.now sums.value_sums.now sums.weighted_sums.now

abbrev pub sums_read : SumsRef → Sums
sums_read sums = sums_held sums.counts.now sums.quality_sums.now sums.value_sums.now sums.weighted_sums.now

abbrev pub cells_in : CellsMut → Cells
cells_in cells = cells_held cells.means.now cells.qualities.now

-- the same slices afterwards, so that their lender sees what they hold
pub record KeepsSums (before after : SumsMut) : Type 0 where
  pub counts : after.counts.ghost_name ≡ before.counts.ghost_name
  pub quality_sums : after.quality_sums.ghost_name ≡ before.quality_sums.ghost_name
  pub value_sums : after.value_sums.ghost_name ≡ before.value_sums.ghost_name
  pub weighted_sums : after.weighted_sums.ghost_name ≡ before.weighted_sums.ghost_name

pub record KeepsCells (before after : CellsMut) : Type 0 where
  pub means : after.means.ghost_name ≡ before.means.ghost_name
  pub qualities : after.qualities.ghost_name ≡ before.qualities.ghost_name

-- ---- the same, as a call finds them and as it leaves them

abbrev pub lent_sums : Both (MutBor SumsMut) (MutBor SumsMut) → Both Sums Sums
lent_sums sums = record { entry = sums_in sums.entry.now; exit = sums_in sums.exit.now }

abbrev pub lent_cells : Both (MutBor CellsMut) (MutBor CellsMut) → Both Cells Cells
lent_cells cells = record { entry = cells_in cells.entry.now; exit = cells_in cells.exit.now }
