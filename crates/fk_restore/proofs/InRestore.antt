pub mod Bound
pub mod Counted
pub mod Heard
pub mod Cleared
pub mod Missed
pub mod Worked
