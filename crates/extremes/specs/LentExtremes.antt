-- The two lists that are lent for the least and the greatest value of each cell, as a record, and what a contract's struct holds as this record.
-- Assumes nothing.
use Rattle.std.specs.Prelude.{◌≡◌, List, ℕ}
use Rattle.std.specs.Borrow.{MutBor}
use denote.Triple.Both.{Both}
use Rattle.extremes.specs.declared.lists.ExtremesMut.{ExtremesMut}

-- a number for each cell
pub record Extremes : Type 0 where
  pub least : List ℕ
  pub greatest : List ℕ

abbrev pub extremes_held : List ℕ → List ℕ → Extremes
extremes_held least greatest = record { least = least; greatest = greatest }

abbrev pub extremes_in : ExtremesMut → Extremes
extremes_in extremes = extremes_held extremes.least.now extremes.greatest.now

-- the same slices afterwards, so that their lender sees what they hold
pub record KeepsExtremes (before after : ExtremesMut) : Type 0 where
  pub least : after.least.ghost_name ≡ before.least.ghost_name
  pub greatest : after.greatest.ghost_name ≡ before.greatest.ghost_name

abbrev pub lent_extremes : Both (MutBor ExtremesMut) (MutBor ExtremesMut) → Both Extremes Extremes
lent_extremes extremes = record { entry = extremes_in extremes.entry.now; exit = extremes_in extremes.exit.now }
