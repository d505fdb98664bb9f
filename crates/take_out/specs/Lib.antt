pub mod TakeOutRoom
