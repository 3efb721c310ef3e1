use Rattle.std.proofs.Common.{None, ap}
use Rattle.fk_turns.proofs.InSteps.Leading.{if_none}
use Rattle.fk_kernel.specs.Kernels.{Kept}
use Rattle.fk_kernel.proofs.Scans.{idle_around, nobody_besides}
use Rattle.fk_kernel.proofs.kernel.Kernel.any_besides.Goals as goal

pub returns-in-None-clause-none : goal.returns-in-None-clause-none
returns-in-None-clause-none c =
    let m = c.args.self.now.store in
    if_none c.ready_between.result
    (λ idle. nobody_besides m c.args.besides (rw (ap (λ (k : Kept). k.store) c.self.view_is) at c.names.ensures.born)
    (idle_around m None c.args.besides idle tt)) c.ready_between.ensures.none
