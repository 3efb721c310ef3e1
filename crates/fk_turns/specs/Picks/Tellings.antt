-- What a move tells, and what a server is told, as the calls have them.
pub use Rattle.fk_calls.specs.declared.calls.moves.Told.{Told}
pub use Rattle.fk_calls.specs.declared.calls.moves.Ran.{Ran}
pub use Rattle.fk_calls.specs.declared.calls.speaking.Spoken.{Spoken}
