pub mod Holds
pub mod Freezing
pub mod Store
