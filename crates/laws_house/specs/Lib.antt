pub mod Houses
pub mod Parts
pub mod Laws
pub mod Moves
pub mod Places
pub mod Transparency
