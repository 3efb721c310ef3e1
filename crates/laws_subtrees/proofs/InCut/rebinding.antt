pub mod Freedom
pub mod Rebound
pub mod Messages
pub mod Touches
pub mod Waits
pub mod Denied
