pub mod Orders
pub mod Laws
pub mod Begun
pub mod Looking
pub mod Ready
pub mod Fit
pub mod Near
pub mod Owed
