pub mod Fields
pub mod Entries
pub mod Sections
pub mod Scenario
