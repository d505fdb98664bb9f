pub mod JoinedRays
pub mod GoodRays
pub mod SweepInvariant
pub mod NoWidthRefusal
pub mod WholeSweep
