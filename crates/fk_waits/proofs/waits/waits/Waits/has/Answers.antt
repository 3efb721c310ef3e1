use Rattle.std.proofs.Common.{sym, ap, ◌∙◌}
use Rattle.fk_waits.specs.Waits.Lists.{stands}
use Rattle.fk_waits.specs.Waits.Threads.{pairs_of}
use Rattle.fk_waits.proofs.InWaits.Listed.{stands_there}
use Rattle.fk_waits.proofs.waits.waits.Waits.has.Goals as goal

pub returns : goal.returns
returns c =
    let t = c.self.inside.threads in
    c.has.ensures (pairs_of t) c.self.invariant.kept.there ∙ sym (stands_there c.args.thread (pairs_of t)) ∙ ap (stands c.args.thread) c.self.view_is
