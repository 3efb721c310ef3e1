pub mod Runs
pub mod ClosedLaws
pub mod told
pub mod strangers
