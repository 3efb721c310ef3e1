use Rattle.std.proofs.Common.{◌≡◌, ◌≤◌, refl, subst}
use Rattle.fk_model.specs.Searches.{depth}
use Rattle.fk_model.specs.Valid.{IsValid}
use Rattle.fk_model.specs.Who.{space_born}
use Rattle.fk_host.specs.Kernels.{Kept, path_of}
use Rattle.fk_host.specs.Kernels.{world_of as world}
use Rattle.fk_host.specs.Hosts.{IsReadyWith}
use Rattle.fk_paging.specs.Pagers.{state_of}
use Rattle.fk_pager.specs.Desks.{root}
use Rattle.fk_pager.specs.Driven.{desk}
use Rattle.fk_pager.proofs.Driving.{placed, call-ready, call-unready, unmet}
use Rattle.fk_pager.proofs.driver.PagedRun.call.Goals as goal

pub returns-then-ready-clause-ready : goal.returns-then-ready-clause-ready
returns-then-ready-clause-ready g c =
    let self = c.args.self.now in
    let d = desk self in
    let kernel = self.host.kernel in
    let services = self.host.services.list in
    let s = state_of self.pager in
    let valid = subst (λ (k : Kept). IsValid (world k)) c.kernel.ensures c.names.ensures.valid in
    let few = subst (λ (k : Kept). (world k).next ≤ depth) c.kernel.ensures c.names.ensures.few in
    let born = subst (λ (k : Kept). path_of k ≡ space_born (world k)) c.kernel.ensures c.names.ensures.born in
    let next = c.next.ensures root self.port in
    record {
      porter = placed d kernel services s c.in_root.result c.args.pick c.next.result refl valid few born c.in_root.ensures next;
      own = call-ready d kernel services s c.in_root.result c.args.pick c.next.result refl valid few born c.in_root.ensures next c.requires.picks
          (c.ready.ensures.0 c.if-ready.true);
    }

pub returns-else-ready-clause-none : goal.returns-else-ready-clause-none
returns-else-ready-clause-none g c =
    let self = c.args.self.now in
    let kernel = self.host.kernel in
    let services = self.host.services.list in
    let valid = subst (λ (k : Kept). IsValid (world k)) c.kernel.ensures c.names.ensures.valid in
    let few = subst (λ (k : Kept). (world k).next ≤ depth) c.kernel.ensures c.names.ensures.few in
    let born = subst (λ (k : Kept). path_of k ≡ space_born (world k)) c.kernel.ensures c.names.ensures.born in
    call-unready (desk self) kernel services (state_of self.pager) c.in_root.result c.args.pick c.next.result refl valid few born c.in_root.ensures
    (c.next.ensures root self.port)
    (unmet c.ready.result (IsReadyWith services (world kernel) (record { who = c.in_root.result; pick = c.args.pick }) c.next.result) c.ready.ensures.1
    c.if-ready.false)
