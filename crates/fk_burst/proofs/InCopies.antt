pub mod Acts
pub mod Equal
pub mod Places
pub mod Used
