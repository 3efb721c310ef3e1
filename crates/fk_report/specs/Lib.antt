pub mod Threads
pub mod Paths
pub mod Jobs
pub mod Report
