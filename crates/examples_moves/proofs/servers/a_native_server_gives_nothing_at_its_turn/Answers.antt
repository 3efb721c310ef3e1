-- Each move is computed.
use Rattle.std.proofs.Common.{refl}
use Rattle.examples_moves.specs.Servers.{server_worlds}
use Rattle.examples_moves.proofs.servers.a_native_server_gives_nothing_at_its_turn.Goals as goal

pub returns-clause-given : goal.returns-clause-given
unfolding server_worlds
returns-clause-given c = refl

pub returns-clause-client : goal.returns-clause-client
unfolding server_worlds
returns-clause-client c = refl

pub returns-clause-no_words : goal.returns-clause-no_words
unfolding server_worlds
returns-clause-no_words c ready = absurd ready

pub returns-clause-clients_turn : goal.returns-clause-clients_turn
unfolding server_worlds
returns-clause-clients_turn c ready = absurd ready

pub returns-clause-no_client : goal.returns-clause-no_client
unfolding server_worlds
returns-clause-no_client c ready = absurd ready
