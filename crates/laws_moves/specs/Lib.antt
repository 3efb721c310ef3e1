pub mod Rows
pub mod Machine
pub mod Frozen
pub mod Users
pub mod Whole
pub mod Savable
pub mod Prompt
