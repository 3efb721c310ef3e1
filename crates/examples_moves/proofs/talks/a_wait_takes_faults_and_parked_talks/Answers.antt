-- Each move is computed.
use Rattle.std.proofs.Common.{refl}
use Rattle.examples_moves.specs.Talks.{talk_worlds}
use Rattle.examples_moves.proofs.talks.a_wait_takes_faults_and_parked_talks.Goals as goal

pub returns-clause-talk : goal.returns-clause-talk
unfolding talk_worlds
returns-clause-talk c = refl

pub returns-clause-raised : goal.returns-clause-raised
unfolding talk_worlds
returns-clause-raised c = refl

pub returns-clause-parked : goal.returns-clause-parked
unfolding talk_worlds
returns-clause-parked c = refl

pub returns-clause-not_taken : goal.returns-clause-not_taken
unfolding talk_worlds
returns-clause-not_taken c ready = absurd ready

pub returns-clause-not_stopped : goal.returns-clause-not_stopped
unfolding talk_worlds
returns-clause-not_stopped c ready = absurd ready

pub returns-clause-connecting : goal.returns-clause-connecting
unfolding talk_worlds
returns-clause-connecting c ready = absurd ready

pub returns-clause-serving : goal.returns-clause-serving
unfolding talk_worlds
returns-clause-serving c = refl

pub returns-clause-no_pick : goal.returns-clause-no_pick
unfolding talk_worlds
returns-clause-no_pick c ready = absurd ready
