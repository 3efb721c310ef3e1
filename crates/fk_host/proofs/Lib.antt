pub use Rattle.fk_served.proofs.Acts
pub mod Choosing
pub mod Quiet
pub mod Bursts
