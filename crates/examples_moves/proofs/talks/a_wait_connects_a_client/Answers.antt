-- Each move is computed.
use Rattle.std.proofs.Common.{refl}
use Rattle.examples_moves.specs.Talks.{talk_worlds}
use Rattle.examples_moves.proofs.talks.a_wait_connects_a_client.Goals as goal

pub returns-clause-alone : goal.returns-clause-alone
unfolding talk_worlds
returns-clause-alone c ready = absurd ready

pub returns-clause-no_pick : goal.returns-clause-no_pick
unfolding talk_worlds
returns-clause-no_pick c ready = absurd ready

pub returns-clause-linked : goal.returns-clause-linked
unfolding talk_worlds
returns-clause-linked c = refl
