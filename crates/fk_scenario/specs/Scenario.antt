pub mod Aims
pub mod Servers
pub mod Jobs
pub mod Reading
pub mod Kept
pub mod Rules
