pub mod FieldOrder
pub mod LayoutSteps
pub mod AcceptedRecord
