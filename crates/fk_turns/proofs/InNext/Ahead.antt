-- Ahead: looks at one object after the other, as the picks have them.
pub use Rattle.fk_turns.proofs.InPicks.Scans.{IsAhead, ahead_next, left_from, rootless, thread_there}
