pub mod Acts
pub mod Calls
