pub mod Laws
pub mod Frame
