pub use Rattle.fk_plans.proofs.InEndings.Verdicts
pub mod Rows
pub mod Allowed
pub mod Made
