-- What is lent to an exported function besides a scan's lists, as records, and a contract's parameters as these records. Assumes nothing.
use Rattle.std.specs.Prelude.{◌≡◌, List, ℕ, ℤ}
use Rattle.std.specs.Borrow.{MutBor}
use denote.Triple.Both.{Both}
use Rattle.placement.specs.Gate.{PlacedGate}
use Rattle.tally.specs.LentSums.{Sums, sums_held, Cells, cells_held}
use Rattle.record_layout.specs.RecordLists.{RecordLists, Lent}
use Rattle.c_answers.specs.declared.gate.GateMut.{GateMut}

-- the numbers of a scan's head, and its lists
pub record ScanNumbers : Type 0 where
  pub head : List ℤ
  pub lists : RecordLists

-- where a field's content starts, and how long it is
pub record FieldNumbers : Type 0 where
  pub start : ℕ
  pub size : ℕ

-- a buffer, and how long the record in it is
pub record WrittenNumbers : Type 0 where
  pub buffer : List ℕ
  pub size : ℕ

-- ---- as a call finds them and as it leaves them

abbrev pub LentNumber : Type 0
LentNumber = Both (MutBor ℕ) (MutBor ℕ)

abbrev pub LentInteger : Type 0
LentInteger = Both (MutBor ℤ) (MutBor ℤ)

abbrev pub LentStruct : Type 0
LentStruct = Both (MutBor (List ℤ)) (MutBor (List ℤ))

abbrev pub lent_gate : LentNumber → LentInteger → LentInteger → LentNumber → Both PlacedGate PlacedGate
lent_gate cell x y mark = record {
  entry = record { entry = cell.entry.now; x = x.entry.now; y = y.entry.now; mark = mark.entry.now };
  exit = record { entry = cell.exit.now; x = x.exit.now; y = y.exit.now; mark = mark.exit.now };
}

abbrev pub lent_head : LentStruct → Both (List ℤ) (List ℤ)
lent_head head = record { entry = head.entry.now; exit = head.exit.now }

abbrev pub lent_scan : LentStruct → Both RecordLists RecordLists → Both ScanNumbers ScanNumbers
lent_scan head lists = record {
  entry = record { head = head.entry.now; lists = lists.entry };
  exit = record { head = head.exit.now; lists = lists.exit };
}

abbrev pub lent_field : LentNumber → LentNumber → Both FieldNumbers FieldNumbers
lent_field start size = record {
  entry = record { start = start.entry.now; size = size.entry.now };
  exit = record { start = start.exit.now; size = size.exit.now };
}

abbrev pub lent_written : Lent → LentNumber → Both WrittenNumbers WrittenNumbers
lent_written buffer size = record {
  entry = record { buffer = buffer.entry.now; size = size.entry.now };
  exit = record { buffer = buffer.exit.now; size = size.exit.now };
}

-- ---- the struct of a gate's numbers

abbrev pub gate_in : GateMut → PlacedGate
gate_in gate = record { entry = gate.cell.now; x = gate.x.now; y = gate.y.now; mark = gate.mark.now }

-- the same numbers afterwards, so that their lender sees what they hold
pub record KeepsGate (before after : GateMut) : Type 0 where
  pub cell : after.cell.ghost_name ≡ before.cell.ghost_name
  pub x : after.x.ghost_name ≡ before.x.ghost_name
  pub y : after.y.ghost_name ≡ before.y.ghost_name
  pub mark : after.mark.ghost_name ≡ before.mark.ghost_name

abbrev pub gate_lent : Both (MutBor GateMut) (MutBor GateMut) → Both PlacedGate PlacedGate
gate_lent gate = record { entry = gate_in gate.entry.now; exit = gate_in gate.exit.now }

-- ---- lists of cells that are lent each as a parameter of its own

abbrev pub sums_apart : Lent → Lent → Lent → Lent → Both Sums Sums
sums_apart counts quality_sums value_sums weighted_sums = record {
  entry = sums_held counts.entry.now quality_sums.entry.now value_sums.entry.now weighted_sums.entry.now;
  exit = sums_held counts.exit.now quality_sums.exit.now value_sums.exit.now weighted_sums.exit.now;
}

abbrev pub cells_apart : Lent → Lent → Both Cells Cells
cells_apart means qualities = record {
  entry = cells_held means.entry.now qualities.entry.now;
  exit = cells_held means.exit.now qualities.exit.now;
}
