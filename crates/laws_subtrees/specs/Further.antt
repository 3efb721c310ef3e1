pub mod Runs
pub mod ClosedLaws
pub mod Told
pub mod Strangers
