use Rattle.std.proofs.Common.{refl, subst}
use Rattle.fk_store.specs.Store.Paths.{path, place}
use Rattle.fk_store.specs.Store.World.{IsLive}
use Rattle.fk_changes.proofs.InDeaths.Scans.{ArePassed}
use Rattle.fk_changes.proofs.InDeaths.Sweeps.{IsSweepable, all_swept}
use Rattle.fk_changes.proofs.deaths.swept.may_each_be_swept.Goals as goal

pub returns : goal.returns
returns c =
    let me = place (path c.args.store.now) c.args.me in
    let gone = place (path c.args.store.now) c.args.gone in
    let all = subst (ArePassed (IsLive c.args.store.now) (IsSweepable c.args.store.now me gone)) c.in_default.is c.loop-at.invariant in
    ((λ yes. all_swept c.args.store.now me gone c.after-at.ensures.named all), (λ h. refl))
