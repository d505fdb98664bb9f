pub mod TakenLists
