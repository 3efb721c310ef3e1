pub mod Coming
pub mod Playing
pub mod Runs
pub mod Fitting
pub mod Bursting
