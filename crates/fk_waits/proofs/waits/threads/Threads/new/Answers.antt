use Rattle.fk_waits.proofs.InWaits.Settled.{none_yet}
use Rattle.fk_waits.proofs.waits.threads.Threads.new.Goals as goal

pub returns-clause-there : goal.returns-clause-there
returns-clause-there c =
    none_yet c.in_ok-causes.causes c.new-names.result c.in_ok-causes.ensures.standing c.in_ok-causes.ensures.seats c.new-names.ensures
