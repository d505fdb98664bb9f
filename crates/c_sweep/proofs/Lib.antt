pub mod HeadInFront
pub mod SweepLeft
