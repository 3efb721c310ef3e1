pub mod Checkpoints
pub mod Phases
pub mod Lefts
