pub mod Given
pub mod Looks
pub mod Left
