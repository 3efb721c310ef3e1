pub use Rattle.fk_core.proofs.InMoment.Lists
pub use Rattle.fk_core.proofs.InMoment.Hearing
pub use Rattle.fk_core.proofs.InMoment.Due
pub use Rattle.fk_core.proofs.InMoment.Asking
pub use Rattle.fk_core.proofs.InMoment.Acts
pub use Rattle.fk_core.proofs.InMoment.Acting
