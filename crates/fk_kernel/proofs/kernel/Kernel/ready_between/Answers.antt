use Rattle.std.proofs.Common.{ap}
use Rattle.fk_turns.proofs.InSteps.Ahead.{IsAhead, ahead_next}
use Rattle.fk_kernel.specs.Kernels.{Kept}
use Rattle.fk_kernel.proofs.Scans.{IsUpBetween, all_ahead}
use Rattle.fk_kernel.proofs.kernel.Kernel.ready_between.Goals as goal

pub loop-at-init : goal.loop-at-init
loop-at-init c = all_ahead c.args.self.now.store c.args.after c.args.last c.args.besides c.after-at.result
    (rw (ap (λ (k : Kept). k.store) c.self.view_is) at c.after-at.ensures.first)

pub loop-at-preserved : goal.loop-at-preserved
loop-at-preserved c =
    let m = c.args.self.now.store in
    let ahead : IsAhead m (IsUpBetween m c.args.after c.args.last c.args.besides) c.loop-at.at = c.loop-at.invariant in
    ahead_next m (IsUpBetween m c.args.after c.args.last c.args.besides) c.in-Some.who c.after-at-in-Some.result (rw c.in-Some.is at ahead)
    (λ up. c.in_default-ready_besides.ensures.none up.2 up.3) (rw (ap (λ (k : Kept). k.store) c.self.view_is) at c.after-at-in-Some.ensures.first)
