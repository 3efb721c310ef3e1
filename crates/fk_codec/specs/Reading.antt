pub mod Given
pub mod Adding
