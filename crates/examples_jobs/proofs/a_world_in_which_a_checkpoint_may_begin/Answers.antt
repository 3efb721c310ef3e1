use Rattle.examples_jobs.proofs.Full.{full_may, full_uncut, full_users, full_ready, full_held}
use Rattle.examples_jobs.proofs.a_world_in_which_a_checkpoint_may_begin.Goals as goal

pub returns-clause-may : goal.returns-clause-may
returns-clause-may c = full_may

pub returns-clause-uncut : goal.returns-clause-uncut
returns-clause-uncut c = full_uncut

pub returns-clause-users : goal.returns-clause-users
returns-clause-users c = full_users

pub returns-clause-ready : goal.returns-clause-ready
returns-clause-ready c = full_ready

pub returns-clause-held : goal.returns-clause-held
returns-clause-held c = full_held
