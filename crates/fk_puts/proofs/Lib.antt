pub mod Same
mod Kept
