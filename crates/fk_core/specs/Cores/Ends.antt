-- How a run ends, in a core.
pub use Rattle.fk_core.specs.Rounds.Ends.{IsAtRest, IsEnded}
