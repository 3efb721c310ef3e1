pub mod Served
pub mod Handles
pub mod Members
pub mod Taken
pub mod Faulted
