pub mod Queues
pub mod Causes
pub mod Waits
pub mod Turns
