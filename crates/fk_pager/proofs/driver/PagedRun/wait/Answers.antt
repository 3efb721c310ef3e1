use Rattle.std.proofs.Common.{refl, sym, ap, ◌∙◌}
use Rattle.fk_host.specs.Kernels.{Kept}
use Rattle.fk_paging.specs.Pagers.{state_of}
use Rattle.fk_pager.specs.Driven.{desk}
use Rattle.fk_pager.proofs.Searching.{leaders-come, more-come}
use Rattle.fk_pager.proofs.driver.PagedRun.wait.Goals as goal

pub loop-who-init : goal.loop-who-init
loop-who-init g c = λ all.
    let self = c.args.self.now in
    leaders-come (desk self) self.host.kernel.store c.store.result.now (state_of self.pager) c.requires.waits refl c.in_root.result c.leaders-leaders.result.0
    (c.store.ensures ∙ ap (λ (k : Kept). k.store) c.kernel.ensures) c.in_root.ensures (c.leaders-leaders.ensures all)

pub loop-who-preserved : goal.loop-who-preserved
loop-who-preserved g c = λ all.
    let self = c.args.self.now in
    more-come (desk self) self.host.kernel.store (state_of self.pager) c.in-Some.who c.loop-who.leaders.0 c.next.new.self.0 c.in-Some.ensures.some
    (c.loop-who.invariant (sym c.next.ensures.all ∙ all)) c.in_default-take.ensures.none
