pub mod TakenRays
pub mod ClosedSweep
