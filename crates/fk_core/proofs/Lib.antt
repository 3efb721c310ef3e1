pub mod InMoment
pub mod InRounds
pub mod InCores
