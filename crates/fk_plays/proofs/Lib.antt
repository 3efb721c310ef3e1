pub use Rattle.fk_runs.proofs.Grounds
pub use Rattle.fk_runs.proofs.InRecordings.Again
pub use Rattle.fk_runs.proofs.InRecordings.Apart
pub use Rattle.fk_runs.proofs.InRecordings.Records
pub use Rattle.fk_runs.proofs.InRuns.Replayed
pub use Rattle.fk_runs.proofs.InRuns.Transparencies
pub mod Found
pub mod Refusals
