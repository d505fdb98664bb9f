pub mod AcceptedTally
