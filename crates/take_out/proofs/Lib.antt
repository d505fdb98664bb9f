pub mod TakeOutTurn
pub mod SumsUndone
pub mod TakenOut
