pub mod Acts
pub mod Stretches
