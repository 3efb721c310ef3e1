-- Stretches, as the calls have them.
pub use Rattle.fk_stretch.specs.Stretches.{IsBurst}
