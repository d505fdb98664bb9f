pub mod TalliedLists
