pub mod Puts
pub mod Small
