pub mod Whys
pub mod Moved
pub mod Picks
pub mod Next
pub mod Steps
