pub mod Hints
pub mod Links
pub mod Leads
pub mod Linked
pub mod Bodies
