pub mod ArcBounds
pub mod ArcNear
pub mod PositionBounds
pub mod PositionSteps
pub mod GateTerms
pub mod PositionNear
