use Rattle.fk_model.specs.declared.body.Body.TheVariants.{Reference}
use Rattle.fk_store_graph.proofs.InBodies.SetLaws.{reference_unborn}
use Rattle.fk_store.proofs.InFreezing.TreeLaws.{known_set, here_now, frozen_beside, told_beside}
use Rattle.fk_store.proofs.freezing.tree.Tree.aim.Goals as goal

pub settle-requires-clause-known : goal.settle-requires-clause-known
settle-requires-clause-known c = rw c.aim.ensures
    (known_set _ c.args.who (Reference c.args.to) (rw (← c.self.view_is) at c.requires.known)
    (reference_unborn _ (rw (← c.self.view_is) at c.requires.reference)))

pub settle-requires-clause-here : goal.settle-requires-clause-here
settle-requires-clause-here c = rw c.aim.ensures (here_now _ c.args.who (Reference c.args.to))

pub settle-requires-clause-frozen : goal.settle-requires-clause-frozen
settle-requires-clause-frozen c = rw c.aim.ensures (frozen_beside _ c.args.who (Reference c.args.to) _ c.self.invariant.frozen)

pub settle-requires-clause-told : goal.settle-requires-clause-told
settle-requires-clause-told c = rw c.aim.ensures (told_beside _ c.args.who (Reference c.args.to) _ c.self.invariant.told)

pub invariant_of-self : goal.invariant_of-self
invariant_of-self c = record { frozen = c.settle.ensures.frozen; told = c.settle.ensures.told }
