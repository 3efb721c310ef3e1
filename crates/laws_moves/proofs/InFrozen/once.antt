pub mod Outcomes
pub mod Rows
pub mod Objects
pub mod Moves
