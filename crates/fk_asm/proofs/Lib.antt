pub mod Addresses
pub mod Few
pub mod Passes
