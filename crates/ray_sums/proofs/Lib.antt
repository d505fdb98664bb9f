pub mod RayLedger
