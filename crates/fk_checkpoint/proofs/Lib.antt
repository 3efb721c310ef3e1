pub mod InSeeking
pub mod InGathering
pub mod InAssembly
pub mod InCheckpoint
