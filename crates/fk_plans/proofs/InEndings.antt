pub mod Seats
pub mod Changes
pub mod Deaths
pub mod Verdicts
