pub mod Machines
pub mod Jobs
pub mod Nesters
pub mod Calls
pub mod Leads
pub mod Holds
