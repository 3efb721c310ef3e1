pub mod Naming
pub mod Leaving
pub mod Acts
pub mod Moving
