-- Each instruction is computed.
use Rattle.std.proofs.Common.{refl}
use Rattle.laws_bursts.specs.Bursts.{run, count}
use Rattle.examples_bursts.proofs.words_are_moved.Goals as goal

pub returns-clause-counts : goal.returns-clause-counts
unfolding run count
returns-clause-counts c = refl

pub returns-clause-stored : goal.returns-clause-stored
unfolding run count
returns-clause-stored c = refl

pub returns-clause-loaded : goal.returns-clause-loaded
unfolding run count
returns-clause-loaded c = refl

pub returns-clause-used : goal.returns-clause-used
unfolding run count
returns-clause-used c = refl

pub returns-clause-unused : goal.returns-clause-unused
unfolding run count
returns-clause-unused c = refl
