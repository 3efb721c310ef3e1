pub mod Lists
pub mod Acts
pub mod Idle
pub mod Hearing
pub mod Growing
pub mod Foreseen
