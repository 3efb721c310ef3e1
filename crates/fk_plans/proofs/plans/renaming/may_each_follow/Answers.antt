use Rattle.std.proofs.Common.{refl, subst}
use Rattle.fk_store.specs.Store.Paths.{path, place}
use Rattle.fk_store.specs.Store.World.{IsLive}
use Rattle.fk_changes.proofs.InDeaths.Scans.{ArePassed}
use Rattle.fk_plans.proofs.InPlans.Following.{IsFollower, all_follow}
use Rattle.fk_plans.proofs.plans.renaming.may_each_follow.Goals as goal

pub returns : goal.returns
returns c =
    let me = place (path c.args.store.now) c.args.me in
    let renamed = place (path c.args.store.now) c.args.renamed in
    let all = subst (ArePassed (IsLive c.args.store.now) (IsFollower c.args.store.now me renamed)) c.in_default.is c.loop-at.invariant in
    ((λ yes. all_follow c.args.store.now me renamed c.after-at.ensures.named all), (λ h. refl))
