pub mod Frozen
pub mod Users
pub mod Holding
pub mod Slots
pub mod Once
