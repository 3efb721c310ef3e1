-- Each move is computed.
use Rattle.std.proofs.Common.{refl}
use Rattle.examples_moves.specs.Holds.{hold_worlds}
use Rattle.examples_moves.proofs.holds.nobody_holds_above_a_porters_hold.Goals as goal

pub returns-clause-waits : goal.returns-clause-waits
unfolding hold_worlds
returns-clause-waits c ready = absurd ready

pub returns-clause-answer : goal.returns-clause-answer
unfolding hold_worlds
returns-clause-answer c = refl

pub returns-clause-done : goal.returns-clause-done
unfolding hold_worlds
returns-clause-done c = refl
