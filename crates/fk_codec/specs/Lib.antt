pub mod Reading
pub mod Writing
pub mod Codec
pub mod Show
