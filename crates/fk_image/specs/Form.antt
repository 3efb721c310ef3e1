pub mod Order
pub mod Holding
pub mod Standing
pub mod Formed
