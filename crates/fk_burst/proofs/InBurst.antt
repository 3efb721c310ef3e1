pub mod Committing
pub mod Currents
pub mod Laying
pub mod Leasing
pub mod Runs
