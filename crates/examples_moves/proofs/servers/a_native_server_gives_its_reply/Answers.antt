-- Each move is computed.
use Rattle.std.proofs.Common.{refl}
use Rattle.examples_moves.specs.Servers.{server_worlds}
use Rattle.examples_moves.proofs.servers.a_native_server_gives_its_reply.Goals as goal

pub returns-clause-client : goal.returns-clause-client
unfolding server_worlds
returns-clause-client c = refl

pub returns-clause-words : goal.returns-clause-words
unfolding server_worlds
returns-clause-words c = refl

pub returns-clause-given : goal.returns-clause-given
unfolding server_worlds
returns-clause-given c = refl

pub returns-clause-full : goal.returns-clause-full
unfolding server_worlds
returns-clause-full c = refl

pub returns-clause-told_full : goal.returns-clause-told_full
unfolding server_worlds
returns-clause-told_full c = refl
