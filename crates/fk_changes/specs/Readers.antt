pub mod Callers
pub mod Readings
