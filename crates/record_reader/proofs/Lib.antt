pub mod ReadLists
pub mod FieldParts
