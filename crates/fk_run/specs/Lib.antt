pub mod PageCommand
pub mod Top
pub mod Made
pub mod Again
pub mod Jobs
pub mod Complete
pub mod Theorem
pub mod TwoCalls
