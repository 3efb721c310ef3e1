pub mod Cores
pub mod Composed
pub mod Turning
pub mod Onwards
pub mod Transparency
pub mod Events
pub mod Ended
pub mod Placed
