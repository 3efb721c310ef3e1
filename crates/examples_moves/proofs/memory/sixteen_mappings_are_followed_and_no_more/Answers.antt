-- Each move is computed.
use Rattle.std.proofs.Common.{refl}
use Rattle.examples_moves.specs.Memory.{memory_worlds}
use Rattle.examples_moves.proofs.memory.sixteen_mappings_are_followed_and_no_more.Goals as goal

pub returns-clause-loads : goal.returns-clause-loads
unfolding memory_worlds
returns-clause-loads c = refl

pub returns-clause-sends : goal.returns-clause-sends
unfolding memory_worlds
returns-clause-sends c = refl

pub returns-clause-arrives : goal.returns-clause-arrives
unfolding memory_worlds
returns-clause-arrives c = refl

pub returns-clause-halts_at_17 : goal.returns-clause-halts_at_17
unfolding memory_worlds
returns-clause-halts_at_17 c = refl

pub returns-clause-ends_at_17 : goal.returns-clause-ends_at_17
unfolding memory_worlds
returns-clause-ends_at_17 c = refl

pub returns-clause-halts_in_loop : goal.returns-clause-halts_in_loop
unfolding memory_worlds
returns-clause-halts_in_loop c = refl

pub returns-clause-ends_in_loop : goal.returns-clause-ends_in_loop
unfolding memory_worlds
returns-clause-ends_in_loop c = refl
