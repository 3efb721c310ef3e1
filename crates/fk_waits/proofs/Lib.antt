pub mod InQueues
pub mod InCauses
pub mod InWaits
pub mod InTurns
