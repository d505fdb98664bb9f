pub mod DecimalLaws
pub mod StoredLaws
pub mod SignedText
