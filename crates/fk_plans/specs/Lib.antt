pub mod Plans
pub mod Wakes
pub mod Answers
pub mod Endings
