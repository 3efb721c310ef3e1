pub mod Determined
pub mod Unshaped
