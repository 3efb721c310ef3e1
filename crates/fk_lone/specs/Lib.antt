pub mod Machine
pub mod LoneThread
pub mod Lones
pub mod LoneLaws
