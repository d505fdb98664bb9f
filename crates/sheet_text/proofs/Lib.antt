pub mod SheetAnswers
