pub mod Rays
pub mod LentLists
pub mod Scan
pub mod ScanRefusal
