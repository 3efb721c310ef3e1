-- Each move is computed.
use Rattle.std.proofs.Common.{refl}
use Rattle.examples_moves.specs.Servers.{server_worlds}
use Rattle.examples_moves.proofs.servers.a_native_server_has_one_client.Goals as goal

pub returns-clause-taken_up : goal.returns-clause-taken_up
unfolding server_worlds
returns-clause-taken_up c = refl

pub returns-clause-client : goal.returns-clause-client
unfolding server_worlds
returns-clause-client c = refl

pub returns-clause-one : goal.returns-clause-one
unfolding server_worlds
returns-clause-one c ready = absurd ready

pub returns-clause-ended : goal.returns-clause-ended
unfolding server_worlds
returns-clause-ended c = refl

pub returns-clause-left : goal.returns-clause-left
unfolding server_worlds
returns-clause-left c = refl
