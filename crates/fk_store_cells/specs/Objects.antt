pub mod Filed
pub mod Threads
pub mod Edits
