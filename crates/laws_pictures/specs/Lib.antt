pub mod Tree
pub mod Imaged
pub mod Saved
pub mod Pictured
