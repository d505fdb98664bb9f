pub mod AcceptedGroup
