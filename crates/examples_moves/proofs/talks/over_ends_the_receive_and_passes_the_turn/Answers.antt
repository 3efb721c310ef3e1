-- Each move is computed.
use Rattle.std.proofs.Common.{refl}
use Rattle.examples_moves.specs.Talks.{talk_worlds}
use Rattle.examples_moves.proofs.talks.over_ends_the_receive_and_passes_the_turn.Goals as goal

pub returns-clause-both : goal.returns-clause-both
unfolding talk_worlds
returns-clause-both c = refl

pub returns-clause-waits : goal.returns-clause-waits
unfolding talk_worlds
returns-clause-waits c ready = absurd ready
