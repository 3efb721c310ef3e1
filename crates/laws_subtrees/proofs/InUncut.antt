pub mod Outcomes
pub mod Found
pub mod Moves
pub mod Kept
pub mod Stood
pub mod Staying
pub mod Replaced
