pub mod ScanTally
