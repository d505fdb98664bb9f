pub mod WordValue
