pub mod Cuts
pub mod Coming
pub mod Nearness
pub mod Looks
pub mod Hearing
pub mod Keeping
