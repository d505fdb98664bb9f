pub mod Cells
pub mod LineLaws
pub mod ExactIndex
pub mod SphereRule
