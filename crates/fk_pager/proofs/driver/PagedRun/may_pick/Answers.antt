use Rattle.std.proofs.Common.{◌≡◌, refl, sym, ap, subst, ◌∙◌}
use Rattle.std.proofs.lemmas.Bool.{OnTrue_from, OnFalse_from}
use Rattle.fk_model.specs.Who.{space_born}
use Rattle.fk_host.specs.Kernels.{Kept, path_of}
use Rattle.fk_host.specs.Kernels.{world_of as world}
use Rattle.fk_paging.specs.Pagers.{state_of}
use Rattle.fk_pager.specs.Driven.{desk}
use Rattle.fk_pager.proofs.Driving.{fault-there, takes, takes-none}
use Rattle.fk_pager.proofs.driver.PagedRun.may_pick.Goals as goal

pub returns-clause-picks : goal.returns-clause-picks
returns-clause-picks g c =
    let self = c.args.self.now in
    let born = subst (λ (k : Kept). path_of k ≡ space_born (world k)) c.kernel-kernel.ensures c.names.ensures.born in
    let found = fault-there self.host.kernel.store c.store.result.now c.in_root.result c.args.who self.pager.pages.items c.as_slice-pages.result.now
    c.has_fault.result (c.store.ensures ∙ ap (λ (k : Kept). k.store) c.kernel-kernel.ensures) c.as_slice-pages.ensures.value c.has_fault.ensures in
    OnTrue_from c.has_fault.result _ (λ is. takes (desk self) self.host.kernel (state_of self.pager) c.args.who c.in_root.result refl c.requires.waits
    c.in_root.ensures born (sym found ∙ is))

pub returns-clause-none : goal.returns-clause-none
returns-clause-none g c =
    let self = c.args.self.now in
    let found = fault-there self.host.kernel.store c.store.result.now c.in_root.result c.args.who self.pager.pages.items c.as_slice-pages.result.now
    c.has_fault.result (c.store.ensures ∙ ap (λ (k : Kept). k.store) c.kernel-kernel.ensures) c.as_slice-pages.ensures.value c.has_fault.ensures in
    OnFalse_from c.has_fault.result _ (λ is. takes-none (desk self) self.host.kernel (state_of self.pager) c.args.who c.in_root.result refl c.requires.waits
    c.in_root.ensures (sym found ∙ is))
