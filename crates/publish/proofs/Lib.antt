pub mod EqualLengths
pub mod MeanBetween
pub mod PublishedRange
pub mod TalliedCells
pub mod FilledCells
