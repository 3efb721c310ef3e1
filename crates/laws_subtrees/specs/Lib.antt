pub mod Cut
pub mod Further
pub mod Uncut
