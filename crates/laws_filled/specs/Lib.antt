pub mod Filled
pub mod Laws
pub mod Pager
pub mod Heard
