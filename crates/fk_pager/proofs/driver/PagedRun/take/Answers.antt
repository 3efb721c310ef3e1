use Rattle.std.proofs.Common.{◌≡◌, Some, IfNone, subst}
use Rattle.fk_model.specs.Places.{Path}
use Rattle.fk_model.specs.Who.{space_born}
use Rattle.fk_host.specs.Kernels.{Kept, path_of}
use Rattle.fk_host.specs.Kernels.{world_of as world}
use Rattle.fk_paging.specs.Pagers.{state_of}
use Rattle.laws_filled.specs.Pager.{IsOwn}
use Rattle.fk_pager.specs.Driven.{desk}
use Rattle.fk_pager.proofs.Driving.{named-place}
use Rattle.fk_pager.proofs.driver.PagedRun.take.Goals as goal

pub call-requires : goal.call-requires
call-requires g c = record { picks = rw c.if-may_pick.true at c.may_pick.ensures.picks }

pub returns-then-may_pick-clause-none : goal.returns-then-may_pick-clause-none
returns-then-may_pick-clause-none g c =
    let self = c.args.self.now in
    let kernel = self.host.kernel in
    let born = subst (λ (k : Kept). path_of k ≡ space_born (world k)) c.kernel.ensures c.names.ensures.born in
    subst (λ (y : Path). IfNone c.call.result (IsOwn (desk self) (world kernel) (state_of self.pager) (Some y) → ⊥)) (named-place kernel born c.args.who)
    c.call.ensures.none
