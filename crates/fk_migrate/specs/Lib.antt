pub mod Turns
pub mod Runs
pub mod Places
pub mod Fates
pub mod Parts
pub mod Pairs
pub mod Promises
