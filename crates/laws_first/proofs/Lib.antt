pub mod First
pub mod Grounded
pub mod Users
pub mod Alone
pub mod Apart
pub mod Programs
pub mod Plain
pub mod Entries
