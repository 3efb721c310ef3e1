pub mod Integrity
pub mod Noninterference
