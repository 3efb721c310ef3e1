use Rattle.std.proofs.Common.{◌≡◌, None, ap, subst}
use Rattle.fk_host.proofs.Choosing.{none-ready, runs-asked}
use Rattle.fk_served.proofs.Idle.{if-none}
use Rattle.fk_served.specs.Acts.{HaveNoActs}
use Rattle.fk_served.specs.Kernels.{world_of as world}
use Rattle.fk_store.specs.Store.World as worlds
use Rattle.fk_host.proofs.host.Host.choose.Goals as goal

pub returns-in-Some-clause-ready : goal.returns-in-Some-clause-ready
returns-in-Some-clause-ready g c = runs-asked c.args.self.now.services.list (world c.args.self.now.kernel) c.in-Some.m c.in-Some.ensures.ready

pub returns-in-None-clause-none : goal.returns-in-None-clause-none
returns-in-None-clause-none g c =
    let self = c.args.self.now in
    let same : world c.next.new.self ≡ world self.kernel = ap worlds.world c.next.ensures.store in
    if-none c.find_act.result _ _
    (λ acts. none-ready self.services.list (world self.kernel) c.in-None.ensures.none
    (subst (λ n. HaveNoActs self.services.list (world self.kernel) None 0 n) c.len.ensures
    (subst (λ w. HaveNoActs self.services.list w None 0 c.len.result) same acts)))
    c.find_act.ensures.none

pub returns-in-None-clause-users : goal.returns-in-None-clause-users
returns-in-None-clause-users g c = if-none c.find_act.result _ _ (λ acts. c.in-None.ensures.none) c.find_act.ensures.none
