pub mod Clients
pub mod Endings
