use Rattle.std.proofs.Common.{subst}
use Rattle.fk_waits.specs.Waits.Lists.{StandOnce}
use Rattle.fk_waits.specs.Waits.Threads.{pairs_of}
use Rattle.fk_waits.proofs.InWaits.Listed.{stand_once}
use Rattle.fk_waits.proofs.waits.waits.Waits.once.Goals as goal

pub returns : goal.returns
returns c = subst StandOnce c.self.view_is (stand_once c.self.inside.threads (pairs_of c.self.inside.threads) c.self.invariant.kept.there)
