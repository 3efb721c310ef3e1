-- The test of each move is computed; it passes.
use Rattle.std.proofs.Common.{◌++◌, refl}
use Rattle.examples_moves.specs.Worked.{goes, times, client}
use Rattle.examples_moves.specs.Talks.{talk_worlds, kept, until_mended}
use Rattle.examples_moves.proofs.Tested.{legal-tested}
use Rattle.examples_moves.proofs.talks.a_message_waits_until_its_keeper_gives_the_page.Goals as goal

pub returns-clause-ready : goal.returns-clause-ready
unfolding talk_worlds
returns-clause-ready c = legal-tested kept (until_mended ++ times 4 (goes client)) refl

pub returns-clause-seen : goal.returns-clause-seen
unfolding talk_worlds
returns-clause-seen c = refl

pub returns-clause-waits : goal.returns-clause-waits
unfolding talk_worlds
returns-clause-waits c ready = absurd ready

pub returns-clause-waits_on : goal.returns-clause-waits_on
unfolding talk_worlds
returns-clause-waits_on c ready = absurd ready

pub returns-clause-faulty : goal.returns-clause-faulty
unfolding talk_worlds
returns-clause-faulty c ready = absurd ready

pub returns-clause-given : goal.returns-clause-given
unfolding talk_worlds
returns-clause-given c = refl

pub returns-clause-goes_on : goal.returns-clause-goes_on
unfolding talk_worlds
returns-clause-goes_on c = refl

pub returns-clause-words : goal.returns-clause-words
unfolding talk_worlds
returns-clause-words c = refl
