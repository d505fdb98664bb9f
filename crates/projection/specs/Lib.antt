pub mod Nearness
pub mod Arc
pub mod Position
pub mod ExactArc
pub mod ExactPosition
pub mod Terms
