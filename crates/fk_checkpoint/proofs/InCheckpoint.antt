pub mod Lefts
pub mod Calls
pub mod Hears
