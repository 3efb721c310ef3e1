pub mod Premises
pub mod Starts
