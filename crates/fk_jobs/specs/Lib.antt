pub mod Ended
pub mod Jobs
pub mod Fitting
pub mod Porters
pub mod Turns
