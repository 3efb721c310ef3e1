pub mod First
pub mod Grounded
pub mod Users
pub mod Programs
pub mod Entries
