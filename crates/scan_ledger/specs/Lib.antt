pub mod ScanLedger
pub mod LedgerRoom
