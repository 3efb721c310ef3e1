pub mod Within
pub mod Sets
