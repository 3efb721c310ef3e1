pub mod Gives
pub mod Fields
pub mod Paths
pub mod Entries
