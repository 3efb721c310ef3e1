pub mod Basics
pub mod Again
pub mod Taken
pub mod Leads
pub mod RoundTrip
pub mod Allowed
