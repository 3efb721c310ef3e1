use Rattle.fk_store.proofs.InStore.finding.HoldLaws.{live-apart}
use Rattle.fk_store.proofs.InStore.finding.Unfrozen.{decided_own}
use Rattle.fk_store.proofs.store.store.Store.decider_held.Goals as goal

-- nothing above it is held
pub returns-else-may_be_frozen-clause-decider : goal.returns-else-may_be_frozen-clause-decider
returns-else-may_be_frozen-clause-decider c = rw (← c.self.view_is)
    (decided_own _ c.self.invariant c.args.object (c.may_be_frozen.ensures c.if-may_be_frozen.false) c.holder.result
    (rw (← c.self.view_is) at c.holder.ensures.holder))

pub returns-else-may_be_frozen-clause-apart : goal.returns-else-may_be_frozen-clause-apart
returns-else-may_be_frozen-clause-apart c = rw (← c.self.view_is)
    (live-apart _ c.self.invariant c.holder.result (rw (← c.self.view_is) at c.holder.ensures.live))
