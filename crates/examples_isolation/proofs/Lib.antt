pub mod There
pub mod Windows
