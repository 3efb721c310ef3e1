mod Scans
mod Kept
mod Endings
mod Replacing
pub mod Promises
mod Rewrote
mod Quietly
mod Stretched
