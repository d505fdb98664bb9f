pub mod LentExtremes
pub mod Extremes
pub mod CompareRoom
pub mod ExtremesOfGates
