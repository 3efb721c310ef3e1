pub mod Programs
pub mod Spaces
pub mod Objects
pub mod Servers
pub mod Jobs
pub mod Kept
