pub mod GroupRoom
