pub mod Connects
pub mod Candidates
