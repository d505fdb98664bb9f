pub mod Checks
pub mod Answer
pub mod Numbered
pub mod Unsigned
