-- The reference in slot 7 of /1, which is held, leads to the port.
use Rattle.std.proofs.Common.{[], ◌∷◌}
use Rattle.std.proofs.lemmas.Bool.{false≢true}
use Rattle.examples_moves.specs.Holds.{hold_worlds}
use Rattle.examples_moves.proofs.holds.pointers_to_what_is_held_are_frozen.Goals as goal

pub returns-clause-renames : goal.returns-clause-renames
unfolding hold_worlds
returns-clause-renames c ready = false≢true (ready.0.others (7 ∷ 1 ∷ []))

pub returns-clause-destroys : goal.returns-clause-destroys
unfolding hold_worlds
returns-clause-destroys c ready = false≢true (ready.0.others (7 ∷ 1 ∷ []))
