-- What a move tells, as the calls have it.
pub use Rattle.fk_turns.specs.Steps.Tellings.{Told}
