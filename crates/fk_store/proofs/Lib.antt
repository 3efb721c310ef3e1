pub mod InHolds
pub mod InFreezing
pub mod InStore
