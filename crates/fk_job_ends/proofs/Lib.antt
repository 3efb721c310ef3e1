pub mod Ended
mod Fills
