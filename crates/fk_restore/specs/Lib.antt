pub mod Positions
pub mod Orders
pub mod Restore
