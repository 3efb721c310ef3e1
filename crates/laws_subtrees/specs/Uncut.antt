pub mod Uncut
pub mod Placed
