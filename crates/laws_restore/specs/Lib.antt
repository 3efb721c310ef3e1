pub mod Sites
pub mod Restore
pub mod Rooms
