pub mod Gates
pub mod LentSums
pub mod Tally
pub mod Width
pub mod CellSums
pub mod TallyRoom
