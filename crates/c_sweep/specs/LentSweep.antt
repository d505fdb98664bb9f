-- What is lent to an exported operation of a sweep, as records, and a contract's parameters as these records. Assumes nothing.
use Rattle.std.specs.Prelude.{List, ℤ}
use denote.Triple.Both.{Both}
use Rattle.c_answers.specs.LentNumbers.{LentStruct}

-- the state's numbers and lists of some kind
pub record WithSweep (Lists : Type 0) : Type 0 where
  pub sweep : List ℤ
  pub lists : Lists

abbrev pub with_sweep : {Lists : Type 0} → LentStruct → Both Lists Lists → Both (WithSweep Lists) (WithSweep Lists)
with_sweep sweep lists = record {
  entry = record { sweep = sweep.entry.now; lists = lists.entry };
  exit = record { sweep = sweep.exit.now; lists = lists.exit };
}
