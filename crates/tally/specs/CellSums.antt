-- The count and the sums of one cell among those of all cells, and with one gate more. Assumes nothing.
use Rattle.std.specs.Prelude.{cond, Option, Some, None, ℕ, ◌+◌, ◌<◌, ◌≤◌, length, get_or, slice_set}
use Rattle.tally.specs.declared.cell_sums.CellSums.{CellSums}
use Rattle.tally.specs.Gates.{echo_of, weighted_echo}
use Rattle.tally.specs.LentSums.{Sums}
use Rattle.tally.specs.Width.{has_room}

-- each list has a place for the cell
pub record HasCell (sums : Sums) (cell : ℕ) : Type 0 where
  pub in_counts : cell < length sums.counts
  pub in_quality_sums : cell < length sums.quality_sums
  pub in_value_sums : cell < length sums.value_sums
  pub in_weighted_sums : cell < length sums.weighted_sums

abbrev pub cell_of : Sums → ℕ → CellSums
cell_of sums cell = record {
  count = get_or sums.counts cell 0;
  quality_sum = get_or sums.quality_sums cell 0;
  value_sum = get_or sums.value_sums cell 0;
  weighted_sum = get_or sums.weighted_sums cell 0;
}

abbrev pub with_cell : Sums → ℕ → CellSums → Sums
with_cell sums cell of_cell = record {
  counts = slice_set sums.counts cell of_cell.count;
  quality_sums = slice_set sums.quality_sums cell of_cell.quality_sum;
  value_sums = slice_set sums.value_sums cell of_cell.value_sum;
  weighted_sums = slice_set sums.weighted_sums cell of_cell.weighted_sum;
}

-- what a measured gate of this value and quality makes of its cell
abbrev pub gate_added : CellSums → ℕ → ℕ → CellSums
gate_added sums value quality = record {
  count = sums.count + 1;
  quality_sum = sums.quality_sum + quality;
  value_sum = sums.value_sum + echo_of value;
  weighted_sum = sums.weighted_sum + weighted_echo value quality;
}

-- so much is there to be taken out again
pub record HasGate (sums : CellSums) (value quality : ℕ) : Type 0 where
  pub in_count : 1 ≤ sums.count
  pub in_quality_sum : quality ≤ sums.quality_sum
  pub in_value_sum : echo_of value ≤ sums.value_sum
  pub in_weighted_sum : weighted_echo value quality ≤ sums.weighted_sum

-- none where the count or a sum would pass its width
unfoldable pub with_gate : CellSums → ℕ → ℕ → Option CellSums
with_gate sums value quality =
    cond (has_room sums.count sums.quality_sum sums.value_sum sums.weighted_sum quality (echo_of value) (weighted_echo value quality))
    (Some (gate_added sums value quality)) None
