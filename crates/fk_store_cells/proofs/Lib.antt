pub mod InSlots
pub mod InKeys
pub mod InObjects
