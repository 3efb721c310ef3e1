pub mod Gentle
pub mod Tracked
pub mod Raised
pub mod Driven
