pub mod RecordRoom
pub mod RecordWritten
pub mod WriteRefusal
