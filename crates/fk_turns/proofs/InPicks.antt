pub mod Scans
pub mod Slots
pub mod Stands
pub mod Leading
