pub mod Savable
