pub mod Above
pub mod Slots
pub mod Ways
