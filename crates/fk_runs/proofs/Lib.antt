pub use Rattle.fk_first.proofs.Grounds
pub use Rattle.fk_first.proofs.Places
pub mod InRunReports
pub mod InRuns
pub mod InRecordings
