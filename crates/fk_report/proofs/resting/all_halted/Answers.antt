use Rattle.std.proofs.Common.{Some, subst, refl}
use Rattle.fk_store.specs.Store.World.{world, place_of}
use Rattle.fk_report.specs.Threads.{HaveHalted}
use Rattle.fk_report.proofs.ThreadScans.{AreOver, over-first, over-more, over-all}
use Rattle.fk_report.proofs.resting.all_halted.Goals as goal

pub loop-at-init : goal.loop-at-init
loop-at-init c = over-first c.args.store.now c.after-at.result c.after-at.ensures.first

pub loop-at-preserved : goal.loop-at-preserved
loop-at-preserved c =
    let m = c.args.store.now in
    let over : AreOver m (Some c.in-Some.who) = subst (AreOver m) c.in-Some.is c.loop-at.invariant in
    over-more m c.in-Some.who c.after-at-in-Some.result over (c.has_halted.ensures.0 (cc)) c.after-at-in-Some.ensures.first

pub returns-then-not-has_halted : goal.returns-then-not-has_halted
returns-then-not-has_halted c = (
  λ yes. absurd (cc),
  λ (all : HaveHalted (world c.args.store.now)). let yes = c.has_halted.ensures.1 (all (place_of c.args.store.now c.in-Some.who)) in absurd (cc),
)

pub returns : goal.returns
returns c = (λ yes. over-all c.args.store.now c.after-at.ensures.named (subst (AreOver c.args.store.now) c.in_default.is c.loop-at.invariant), λ all. refl)
