pub mod Loops
pub mod Paths
