pub use Rattle.fk_served.proofs.Lists
pub use Rattle.fk_served.proofs.Hearing
pub use Rattle.fk_served.proofs.Acts
pub mod Acting
pub mod Asking
pub mod Due
