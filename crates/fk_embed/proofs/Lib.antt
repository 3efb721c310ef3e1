pub mod Hosting
pub mod Going
pub mod Ending
pub mod Making
