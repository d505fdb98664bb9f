pub mod GateAnswer
