pub mod GroupFits
pub mod RayOfGroup
pub mod RaysUndone
pub mod RaysSoFar
