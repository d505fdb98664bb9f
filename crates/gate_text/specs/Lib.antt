pub mod GateText
