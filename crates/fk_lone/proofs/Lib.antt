pub mod Runs
pub mod Joined
pub mod LoneSteps
pub mod LoneMoves
pub mod Lones
pub mod Filled
