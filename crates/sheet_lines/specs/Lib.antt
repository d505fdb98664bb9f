pub mod SheetLines
pub mod ListedCells
