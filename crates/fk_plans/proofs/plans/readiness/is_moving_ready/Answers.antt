use Rattle.std.proofs.Common.{◌≡◌, ◌↔◌, IsTrue, true, false, None, refl}
use Rattle.fk_store.specs.Store.Paths.{path, place}
use Rattle.fk_store.specs.Store.World.{world}
use Rattle.fk_plans.specs.Plans.Allowed.{is_plan_allowed, may_pick, IsVerdictAllowed}
use Rattle.fk_plans.specs.Plans.Movings.{plan_of, verdict_of}
use Rattle.fk_plans.proofs.InPlans.Moved.{each}
use Rattle.fk_plans.proofs.InPlans.Ready.{ready_allowed, never_picks}
use Rattle.fk_plans.proofs.plans.readiness.is_moving_ready.Goals as goal

pub returns-in-None : goal.returns-in-None
returns-in-None c words =
    let m = c.args.store.now in
    let me = c.args.caller.who in
    let moving = c.args.moving.now in
    let may = each (λ v. may_pick false None v ≡ true) moving.last (plan_of moving) refl refl in
    let allowed = each
    (λ v. IsTrue (is_plan_allowed (world m) (place (path m) me) (path m) (plan_of moving)) ↔ IsVerdictAllowed (world m) (place (path m) me) (path m) v)
    moving.last (plan_of moving) ((λ h. h), (λ h. h)) ((λ h. h), (λ h. h)) in
    rw c.in-None.is (ready_allowed _ _ words c.requires.free _ false None (verdict_of moving) c.requires.fits may (rw c.is_moving_allowed.ensures allowed))

pub returns-in-Some : goal.returns-in-Some
returns-in-Some c words =
    let moving = c.args.moving.now in
    let no = each (λ v. may_pick false c.args.pick v ≡ false) moving.last (plan_of moving) (rw c.in-Some.is refl) (rw c.in-Some.is refl) in
    never_picks _ _ words c.requires.free false c.args.pick (verdict_of moving) c.requires.fits no
