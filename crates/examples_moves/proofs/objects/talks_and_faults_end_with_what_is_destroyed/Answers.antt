-- Each move is computed.
use Rattle.std.proofs.Common.{refl}
use Rattle.examples_moves.specs.Objects.{object_worlds}
use Rattle.examples_moves.proofs.objects.talks_and_faults_end_with_what_is_destroyed.Goals as goal

pub returns-clause-port : goal.returns-clause-port
unfolding object_worlds
returns-clause-port c = refl

pub returns-clause-done : goal.returns-clause-done
unfolding object_worlds
returns-clause-done c = refl

pub returns-clause-server : goal.returns-clause-server
unfolding object_worlds
returns-clause-server c = refl

pub returns-clause-taker : goal.returns-clause-taker
unfolding object_worlds
returns-clause-taker c = refl

pub returns-clause-set : goal.returns-clause-set
unfolding object_worlds
returns-clause-set c = refl
