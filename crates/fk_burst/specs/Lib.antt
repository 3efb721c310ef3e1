pub mod Copies
pub mod Burst
