pub mod DecimalText
pub mod StoredText
pub mod RefusedLine
