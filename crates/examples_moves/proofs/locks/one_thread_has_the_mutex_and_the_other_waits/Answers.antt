-- The test of each move is computed; it passes.
use Rattle.std.proofs.Common.{refl}
use Rattle.examples_moves.specs.Locks.{lock_worlds, two_lock, lock_twice}
use Rattle.examples_moves.proofs.Tested.{legal-tested}
use Rattle.examples_moves.proofs.locks.one_thread_has_the_mutex_and_the_other_waits.Goals as goal

pub returns-clause-ready : goal.returns-clause-ready
unfolding lock_worlds
returns-clause-ready c = legal-tested two_lock lock_twice refl

pub returns-clause-first : goal.returns-clause-first
unfolding lock_worlds
returns-clause-first c = refl

pub returns-clause-locked : goal.returns-clause-locked
unfolding lock_worlds
returns-clause-locked c = refl

pub returns-clause-second : goal.returns-clause-second
unfolding lock_worlds
returns-clause-second c = refl

pub returns-clause-shown : goal.returns-clause-shown
unfolding lock_worlds
returns-clause-shown c = refl

pub returns-clause-waits : goal.returns-clause-waits
unfolding lock_worlds
returns-clause-waits c ready = absurd ready

pub returns-clause-halts : goal.returns-clause-halts
unfolding lock_worlds
returns-clause-halts c = refl
