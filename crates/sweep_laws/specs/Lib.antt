pub mod SweepSequence
pub mod WholeSweep
