pub mod Seeking
pub mod Gathering
pub mod Assembly
pub mod Checkpoint
