pub mod Slots
pub mod Keys
pub mod Objects
