pub mod Rooms
pub mod Restoring
