pub mod Walks
pub mod Passes
pub mod Positions
pub mod Code
pub mod Doing
pub mod Laws
