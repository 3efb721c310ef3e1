pub mod RunReports
pub mod Runs
pub mod Recordings
