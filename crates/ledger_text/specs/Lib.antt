pub mod PlacedColumns
pub mod LedgerHeading
pub mod LedgerLine
