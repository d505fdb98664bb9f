pub mod Series
pub mod Tables
