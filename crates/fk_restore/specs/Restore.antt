pub mod Bounds
pub mod Restores
