pub mod Publish
pub mod PublishRoom
pub mod Publication
pub mod CellMeans
