pub mod Commits
pub mod Kept
pub mod Lease
pub mod Leases
