pub mod Given
pub mod Plain
pub mod Lefts
pub mod Skipped
pub mod Spent
pub mod Below
