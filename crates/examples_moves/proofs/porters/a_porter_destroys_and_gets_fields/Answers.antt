-- Each move is computed.
use Rattle.std.proofs.Common.{refl}
use Rattle.examples_moves.specs.Porters.{porter_worlds}
use Rattle.examples_moves.proofs.porters.a_porter_destroys_and_gets_fields.Goals as goal

pub returns-clause-answer : goal.returns-clause-answer
unfolding porter_worlds
returns-clause-answer c = refl

pub returns-clause-gone : goal.returns-clause-gone
unfolding porter_worlds
returns-clause-gone c = refl

pub returns-clause-space : goal.returns-clause-space
unfolding porter_worlds
returns-clause-space c = refl

pub returns-clause-stays : goal.returns-clause-stays
unfolding porter_worlds
returns-clause-stays c = refl

pub returns-clause-peer : goal.returns-clause-peer
unfolding porter_worlds
returns-clause-peer c = refl

pub returns-clause-no_thread : goal.returns-clause-no_thread
unfolding porter_worlds
returns-clause-no_thread c = refl

pub returns-clause-holder : goal.returns-clause-holder
unfolding porter_worlds
returns-clause-holder c = refl
