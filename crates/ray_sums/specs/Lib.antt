pub mod RaySums
