use Rattle.std.proofs.Common.{ap, ◌∙◌}
use Rattle.fk_waits.specs.Waits.Threads.{front_for}
use Rattle.fk_waits.proofs.InWaits.AllWoken.{front_pairs}
use Rattle.fk_waits.proofs.waits.threads.Threads.front.Goals as goal

pub returns : goal.returns
returns c l there = c.front.ensures there.list there.standing ∙ front_pairs there.list ∙ ap front_for there.pairs
