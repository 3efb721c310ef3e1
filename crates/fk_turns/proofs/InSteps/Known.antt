-- Known: names and users' threads, as what is told of a move has them.
pub use Rattle.fk_turns.proofs.InMoved.Told.{same_name, user_there}
