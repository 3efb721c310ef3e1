use Rattle.std.proofs.Common.{◌≡◌, sym, ap, ◌∙◌, arith}
use Rattle.fk_model.specs.Objects.{or_else}
use Rattle.fk_store.specs.Store.World.{IsLive}
use Rattle.fk_store.proofs.InStore.finding.Walks.{younger}
use Rattle.fk_store.proofs.InStore.finding.HoldLaws.{home-root, decider-object, each-or, decided, decided-above, live-apart}
use Rattle.fk_store.proofs.store.store.Store.decider_above.Goals as goal

pub loop-above-init : goal.loop-above-init
loop-above-init c = record {
  steps = omega arith;
  decider = ap (or_else _) c.holder-holder.ensures.holder ∙ sym (decider-object c.args.self.now c.args.object);
  live = c.holder-holder.ensures.live;
}

-- nobody decides above where there is nothing above
pub returns-in-None-clause-decider : goal.returns-in-None-clause-decider
returns-in-None-clause-decider c =
    rw (← c.self.view_is) (decided _
    c.self.invariant c.loop-above.at c.loop-above.holder _ (rw (← c.self.view_is) at c.loop-above.invariant.decider) (sym c.home.ensures ∙ c.in-None.is))

pub loop-above-preserved : goal.loop-above-preserved
loop-above-preserved c =
    let up = sym c.home.ensures ∙ c.in-Some.is in
    let older = younger _ c.self.invariant c.loop-above.at c.in-Some.who up in
    record {
      steps = omega (arith, c.loop-above.invariant.steps);
      decider = rw (c.or-holder.ensures, ← c.self.view_is) (decided-above _ c.self.invariant c.loop-above.at c.loop-above.holder
          _ (rw (← c.self.view_is) at c.loop-above.invariant.decider) c.in-Some.who c.holder.result up (rw (← c.self.view_is) at c.holder.ensures.holder));
      live = rw c.or-holder.ensures (each-or (IsLive c.args.self.now) c.holder.result c.loop-above.holder c.holder.ensures.live c.loop-above.invariant.live);
    }

pub returns-clause-decider : goal.returns-clause-decider
returns-clause-decider c =
    let root : c.loop-above.at ≡ 0 = omega (arith, c.loop-above.invariant.steps) in
    rw (← c.self.view_is) (decided _ c.self.invariant
    c.loop-above.at c.loop-above.holder _ (rw (← c.self.view_is) at c.loop-above.invariant.decider) (rw root (home-root _ c.self.invariant)))

pub returns-in-None-clause-apart : goal.returns-in-None-clause-apart
returns-in-None-clause-apart c =
    rw (← c.self.view_is) (live-apart _ c.self.invariant c.loop-above.holder (rw (← c.self.view_is) at c.loop-above.invariant.live))

pub returns-clause-apart : goal.returns-clause-apart
returns-clause-apart c = rw (← c.self.view_is) (live-apart _ c.self.invariant c.loop-above.holder (rw (← c.self.view_is) at c.loop-above.invariant.live))
