pub mod Named
pub mod Stood
