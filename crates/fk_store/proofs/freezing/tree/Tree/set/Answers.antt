use Rattle.fk_store.proofs.InFreezing.TreeLaws.{known_set, here_now, frozen_beside, told_beside}
use Rattle.fk_store.proofs.freezing.tree.Tree.set.Goals as goal

pub settle-requires-clause-known : goal.settle-requires-clause-known
settle-requires-clause-known c = rw c.set.ensures
    (known_set _ c.args.who c.args.body (rw (← c.self.view_is) at c.requires.known) (rw (← c.self.view_is) at c.requires.birth))

pub settle-requires-clause-here : goal.settle-requires-clause-here
settle-requires-clause-here c = rw c.set.ensures (here_now _ c.args.who c.args.body)

pub settle-requires-clause-frozen : goal.settle-requires-clause-frozen
settle-requires-clause-frozen c = rw c.set.ensures (frozen_beside _ c.args.who c.args.body _ c.self.invariant.frozen)

pub settle-requires-clause-told : goal.settle-requires-clause-told
settle-requires-clause-told c = rw c.set.ensures (told_beside _ c.args.who c.args.body _ c.self.invariant.told)

pub invariant_of-self : goal.invariant_of-self
invariant_of-self c = record { frozen = c.settle.ensures.frozen; told = c.settle.ensures.told }
