pub mod Rows
pub mod Stood
pub mod Named
