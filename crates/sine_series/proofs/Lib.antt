pub mod SeriesAccuracy
pub mod NestedSeries
pub mod TableTest
pub mod TableRule
