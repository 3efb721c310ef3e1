pub mod Images
pub mod Seats
pub mod Fitting
pub mod Turns
