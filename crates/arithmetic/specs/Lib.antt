pub mod Floor
pub mod Fraction
pub mod Magnitude
pub mod Nearness
pub mod Places
