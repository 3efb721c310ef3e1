pub mod Sought
pub mod Targets
