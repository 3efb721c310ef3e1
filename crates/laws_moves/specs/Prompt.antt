pub mod Callers
pub mod Correct
pub mod Prompt
pub mod Brief
pub mod Events
