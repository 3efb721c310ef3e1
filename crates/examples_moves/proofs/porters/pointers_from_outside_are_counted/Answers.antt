-- Each move is computed.
use Rattle.std.proofs.Common.{refl}
use Rattle.examples_moves.specs.Porters.{porter_worlds}
use Rattle.examples_moves.proofs.porters.pointers_from_outside_are_counted.Goals as goal

pub returns-clause-counted : goal.returns-clause-counted
unfolding porter_worlds
returns-clause-counted c = refl

pub returns-clause-none : goal.returns-clause-none
unfolding porter_worlds
returns-clause-none c = refl
