pub mod SweepOperations
