pub mod WidthLaws
pub mod TallyTurn
pub mod TallySplit
pub mod TallyFromNothing
pub mod TallyWidth
pub mod GatesTallied
pub mod AllAdded
pub mod CountTotal
