pub mod Readers
pub mod Threads
pub mod Records
pub mod Deaths
