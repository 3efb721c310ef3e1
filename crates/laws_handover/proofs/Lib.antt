pub mod Meets
pub mod Kept
pub mod Pieces
pub mod Whys
