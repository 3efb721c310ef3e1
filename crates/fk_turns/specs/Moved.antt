pub mod Kept
pub mod Moved
pub mod Settled
pub mod Told
