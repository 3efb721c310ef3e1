pub mod Answers
pub mod Firsts
pub mod Sleepers
pub mod Shifted
