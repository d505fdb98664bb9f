pub mod Sphere
pub mod Window
pub mod Mark
pub mod LineRoom
