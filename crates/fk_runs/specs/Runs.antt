pub use Rattle.fk_first.specs.Entries
pub use Rattle.fk_runs.specs.RunReports.Made
pub use Rattle.fk_first.specs.First
pub use Rattle.fk_workers.specs.Workers.Plays
pub use Rattle.fk_workers.specs.Workers.Shown
pub use Rattle.fk_first.specs.Cores
pub mod Transparency
pub mod Runs
