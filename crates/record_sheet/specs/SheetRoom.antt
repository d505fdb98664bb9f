-- What the functions that print a sheet ask of a record. Assumes nothing.
use Rattle.std.specs.Prelude.{List, ◌≡◌, ℕ, ◌≤◌, length}
use Rattle.tally.specs.LentSums.{Cells}
use Rattle.scan.specs.declared.head.ScanHead.{ScanHead}
use Rattle.scan.specs.Scan.{gates_of, cells_of}
use Rattle.record_layout.specs.RecordPlaces.{head_in}
use Rattle.record_layout.specs.RecordRefusal.{head_refusal}

-- a good record within the two sizes
pub record Sized (bytes : List ℕ) (head : ScanHead) : Type 0 where
  pub accepted : head_refusal bytes ≡ 0
  pub is_head : head ≡ head_in bytes
  pub gates_most : gates_of head ≤ 4096
  pub cells_most : cells_of head ≤ 1024

-- a place for each cell
pub record CellRoom (head : ScanHead) (cells : Cells) : Type 0 where
  pub means_length : length cells.means ≡ cells_of head
  pub cell_qualities_length : length cells.qualities ≡ cells_of head
