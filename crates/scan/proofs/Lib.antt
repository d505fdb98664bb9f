pub mod AcceptedScan
pub mod AllPass
pub mod RayLaws
