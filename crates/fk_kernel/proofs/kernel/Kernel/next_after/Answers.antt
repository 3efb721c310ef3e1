use Rattle.std.proofs.Common.{None, refl}
use Rattle.fk_turns.proofs.InSteps.Leading.{if_none}
use Rattle.fk_kernel.proofs.Scans.{idle_around, nobody_ready}
use Rattle.fk_kernel.proofs.kernel.Kernel.next_after.Goals as goal

pub returns-in-None-clause-none : goal.returns-in-None-clause-none
returns-in-None-clause-none c =
    let m = c.args.self.now.store in
    if_none c.ready_up_to.result
    (λ upto any. nobody_ready m c.ready_between.ensures.named
    (λ other live. idle_around m c.args.last None c.in-None.ensures.none upto other live refl) any.0 any.1 any.2) c.ready_up_to.ensures.none
