pub mod SweepStruct
pub mod LentSweep
