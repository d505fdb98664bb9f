pub mod ContentLengths
pub mod WrittenBytes
pub mod SignedWords
