-- Each move is computed.
use Rattle.std.proofs.Common.{refl}
use Rattle.examples_moves.proofs.calls.some_calls_are_denied.Goals as goal

pub returns-clause-users : goal.returns-clause-users
returns-clause-users c = refl

pub returns-clause-porters : goal.returns-clause-porters
returns-clause-porters c = refl
