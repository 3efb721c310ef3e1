pub mod Loops
pub mod Found
