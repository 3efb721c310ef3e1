pub mod FirstWorld
pub mod MadeSoFar
pub mod Words
pub mod Services
pub mod Starts
