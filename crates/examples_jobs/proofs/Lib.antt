pub mod Full
pub mod Brief
pub mod Wrong
pub mod Turns
pub mod Scripts
pub mod Endless
pub mod Pins
