pub use Rattle.fk_turns.proofs.InPicks.Leading
pub mod Placed
pub mod Passed
pub mod Scans
pub mod Idle
pub mod Ahead
