use Rattle.fk_store.proofs.InStore.changing.Nudging.{small_change}
use Rattle.fk_store.proofs.store.store.Store.nudge.Goals as goal

pub invariant_of-self : goal.invariant_of-self
invariant_of-self c = (small_change c.args.change _ c.self.invariant c.args.who _ c.nudge.ensures.there c.nudge.ensures.none).kept

pub returns : goal.returns
returns c =
    let on = small_change c.args.change _ c.self.invariant c.args.who _ c.nudge.ensures.there c.nudge.ensures.none in
    rw (← c.self.view_is) (record { world = on.step; kinds = on.kinds; paths = on.paths })
