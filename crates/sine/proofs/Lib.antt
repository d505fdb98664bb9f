pub mod Quarters
pub mod SineBounds
pub mod SineNear
