pub mod SheetRoom
pub mod GoodSheet
