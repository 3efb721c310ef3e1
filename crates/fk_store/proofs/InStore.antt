pub mod finding
pub mod changing
