pub mod Cuts
pub mod Further
pub mod Rebind
pub mod Seen
