pub mod Quarters
pub mod Sine
pub mod ExactSine
pub mod Bounds
