pub mod There
pub mod Renamed
pub mod Settled
pub mod Listed
pub mod Last
pub mod AllWoken
