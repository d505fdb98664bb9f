pub mod RayGroup
pub mod SweepLengths
pub mod SweepNumbers
