pub mod AcceptedSums
pub mod PassedState
