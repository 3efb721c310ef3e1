pub mod Cells
pub mod Tabled
