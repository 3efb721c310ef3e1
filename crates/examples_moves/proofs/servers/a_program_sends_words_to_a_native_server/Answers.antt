-- The test of each move is computed; it passes.
use Rattle.std.proofs.Common.{[], ◌∷◌, ◌++◌, refl}
use Rattle.examples_moves.specs.Worked.{goes, client}
use Rattle.examples_moves.specs.Servers.{server_worlds, to_console, and_returned}
use Rattle.examples_moves.proofs.Tested.{legal-tested}
use Rattle.examples_moves.proofs.servers.a_program_sends_words_to_a_native_server.Goals as goal

pub returns-clause-ready : goal.returns-clause-ready
unfolding server_worlds
returns-clause-ready c = legal-tested to_console (and_returned ++ goes client ∷ []) refl

pub returns-clause-alone : goal.returns-clause-alone
unfolding server_worlds
returns-clause-alone c ready = absurd ready

pub returns-clause-entered : goal.returns-clause-entered
unfolding server_worlds
returns-clause-entered c = refl

pub returns-clause-accepted : goal.returns-clause-accepted
unfolding server_worlds
returns-clause-accepted c = refl

pub returns-clause-sent_one : goal.returns-clause-sent_one
unfolding server_worlds
returns-clause-sent_one c = refl

pub returns-clause-sent_two : goal.returns-clause-sent_two
unfolding server_worlds
returns-clause-sent_two c = refl

pub returns-clause-turned : goal.returns-clause-turned
unfolding server_worlds
returns-clause-turned c = refl

pub returns-clause-returned : goal.returns-clause-returned
unfolding server_worlds
returns-clause-returned c = refl

pub returns-clause-halts : goal.returns-clause-halts
unfolding server_worlds
returns-clause-halts c = refl

pub returns-clause-told_taken : goal.returns-clause-told_taken
unfolding server_worlds
returns-clause-told_taken c = refl

pub returns-clause-told_first : goal.returns-clause-told_first
unfolding server_worlds
returns-clause-told_first c = refl

pub returns-clause-told_second : goal.returns-clause-told_second
unfolding server_worlds
returns-clause-told_second c = refl

pub returns-clause-told_turned : goal.returns-clause-told_turned
unfolding server_worlds
returns-clause-told_turned c = refl

pub returns-clause-told_returned : goal.returns-clause-told_returned
unfolding server_worlds
returns-clause-told_returned c = refl
