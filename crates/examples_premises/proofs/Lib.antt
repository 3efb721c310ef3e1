pub mod Listed
pub mod Apart
pub mod HeldBy
pub mod Starting
