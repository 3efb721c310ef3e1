pub mod Tested
pub mod Unheld
pub mod FewSlots
