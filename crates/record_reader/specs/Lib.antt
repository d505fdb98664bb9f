pub mod RecordRead
pub mod FieldPart
