pub mod Lengths
pub mod Outcomes
pub mod Memory
pub mod Objects
pub mod Moves
pub mod Kept
pub mod Laws
pub mod Younger
