pub mod StructLimits
