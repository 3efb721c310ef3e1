pub mod Hosts
pub mod Jobs
pub mod Now
