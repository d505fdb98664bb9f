pub mod PlacedColumns
pub mod LedgerHead
pub mod NeverRefused
