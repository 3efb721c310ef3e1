pub mod Frozen
pub mod Held
