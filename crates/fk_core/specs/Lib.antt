pub mod Moment
pub mod Rounds
pub mod Cores
