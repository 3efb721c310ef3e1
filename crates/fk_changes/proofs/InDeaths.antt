pub mod Talking
pub mod Endings
pub mod Scans
pub mod Clients
pub mod Sweeps
pub mod Allowed
pub mod Unheld
pub mod Lefts
