pub mod GivenWords
pub mod GivenGate
