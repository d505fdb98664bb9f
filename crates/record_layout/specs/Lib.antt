pub mod Fields
pub mod RecordPlaces
pub mod RecordLists
pub mod RecordRefusal
