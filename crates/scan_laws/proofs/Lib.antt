pub mod LedgerEntry
pub mod PlacedTotal
pub mod ExactGate
pub mod ExactCount
pub mod TallyPublished
pub mod StarredCases
