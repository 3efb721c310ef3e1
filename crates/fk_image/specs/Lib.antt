pub mod Image
pub mod Format
pub mod Form
pub mod Pointers
