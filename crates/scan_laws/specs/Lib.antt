pub mod Placed
pub mod ExactCount
pub mod TallyPublished
pub mod StarredCases
