-- The test of each move is computed; it passes.
use Rattle.std.proofs.Common.{[], ◌∷◌, ◌++◌, refl}
use Rattle.examples_moves.specs.Worked.{goes}
use Rattle.examples_moves.specs.Locks.{lock_worlds, one_sleeps, thread_0, lets_go, until_signalled}
use Rattle.examples_moves.proofs.Tested.{legal-tested}
use Rattle.examples_moves.proofs.locks.a_signal_wakes_a_stopped_sleeper.Goals as goal

pub returns-clause-ready : goal.returns-clause-ready
unfolding lock_worlds
returns-clause-ready c = legal-tested one_sleeps (until_signalled ++ (lets_go ++ goes thread_0 ∷ [])) refl

pub returns-clause-seen : goal.returns-clause-seen
unfolding lock_worlds
returns-clause-seen c = refl

pub returns-clause-shown : goal.returns-clause-shown
unfolding lock_worlds
returns-clause-shown c = refl

pub returns-clause-sleeps_on : goal.returns-clause-sleeps_on
unfolding lock_worlds
returns-clause-sleeps_on c ready = absurd ready

pub returns-clause-no_pick : goal.returns-clause-no_pick
unfolding lock_worlds
returns-clause-no_pick c ready = absurd ready

pub returns-clause-waits : goal.returns-clause-waits
unfolding lock_worlds
returns-clause-waits c ready = absurd ready

pub returns-clause-record : goal.returns-clause-record
unfolding lock_worlds
returns-clause-record c = refl
