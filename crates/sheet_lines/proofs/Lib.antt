pub mod CellLines
