pub mod Fields
pub mod Seeking
