pub mod Undisturbed
pub mod Once
