pub mod LentNumbers
pub mod RecordCalls
