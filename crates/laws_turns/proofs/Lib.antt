pub mod Settling
mod Stays
mod Quiets
pub mod Running
