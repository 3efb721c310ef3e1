pub mod Left
pub mod Found
pub mod Reported
pub mod Calls
