pub mod Faces
pub mod Own
pub mod Exact
pub mod Laws
