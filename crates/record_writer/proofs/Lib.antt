pub mod WriterAccepted
pub mod AcceptedWriting
pub mod RecordLength
