pub mod SurveyLimits
pub mod MarkByte
pub mod MarksStored
pub mod GateNear
pub mod ExactCell
pub mod GateCases
pub mod GateNumbers
