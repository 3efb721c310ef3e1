pub mod Beneath
pub mod Spaces
