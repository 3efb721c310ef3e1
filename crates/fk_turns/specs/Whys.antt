pub mod Whys
pub mod Causes
pub mod Staying
pub mod Hearings
