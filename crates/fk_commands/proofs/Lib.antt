pub mod Comes
pub mod Rises
