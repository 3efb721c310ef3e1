pub mod Stable
pub mod Bodies
pub mod Ways
