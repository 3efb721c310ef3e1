pub mod Ways
pub mod Walked
pub mod Leads
pub mod Openings
