pub mod Asked
pub mod Tables
pub mod Entries
pub mod Objects
pub mod Refusals
pub mod Keys
pub mod Scenarios
