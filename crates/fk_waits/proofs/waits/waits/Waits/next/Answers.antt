use Rattle.std.proofs.Common.{ap, ◌∙◌}
use Rattle.fk_waits.specs.Waits.Lists.{first_ready, Lists}
use Rattle.fk_waits.specs.Waits.Threads.{pairs_of}
use Rattle.fk_waits.proofs.InWaits.Listed.{first_is_ready}
use Rattle.fk_waits.proofs.waits.waits.Waits.next.Goals as goal

pub first-requires : goal.first-requires
first-requires c = record { list = pairs_of c.self.inside.threads; there = c.self.invariant.kept.there }

pub returns : goal.returns
returns c =
    let t = c.self.inside.threads in
    c.first.ensures (pairs_of t) c.self.invariant.kept.there ∙ first_is_ready (pairs_of t) ∙ ap (λ (lists : Lists). first_ready lists.ready) c.self.view_is
