pub mod CompareTurn
pub mod GatesCompared
pub mod CompareSplit
pub mod ExtremesFromNothing
pub mod ExtremesOfGates
