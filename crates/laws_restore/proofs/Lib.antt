pub mod InSites
pub mod InRestore
pub mod InRooms
