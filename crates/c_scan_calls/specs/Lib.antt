pub mod ScanCalls
