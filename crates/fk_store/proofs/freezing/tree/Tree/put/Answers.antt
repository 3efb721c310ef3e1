use Rattle.fk_store.proofs.InFreezing.TreeLaws.{known_put, here_now, frozen_beside, frozen_marks, told_beside}
use Rattle.fk_store.proofs.freezing.tree.Tree.put.Goals as goal

pub settle-requires-clause-known : goal.settle-requires-clause-known
settle-requires-clause-known c = rw c.in_ok-put.ensures.ok
    (known_put _ c.args.who c.args.body (rw (← c.self.view_is) at c.requires.known) (rw (← c.self.view_is) at c.requires.birth) c.requires.younger)

pub settle-requires-clause-here : goal.settle-requires-clause-here
settle-requires-clause-here c = rw c.in_ok-put.ensures.ok (here_now _ c.args.who c.args.body)

pub settle-requires-clause-frozen : goal.settle-requires-clause-frozen
settle-requires-clause-frozen c = rw c.in_ok-put.ensures.ok
    (frozen_marks _ _ _ c.args.who c.make_room.ensures (frozen_beside _ c.args.who c.args.body _ c.self.invariant.frozen))

pub settle-requires-clause-told : goal.settle-requires-clause-told
settle-requires-clause-told c = rw c.in_ok-put.ensures.ok (told_beside _ c.args.who c.args.body _ c.self.invariant.told)

pub invariant_of-self-2 : goal.invariant_of-self-2
invariant_of-self-2 c = record { frozen = c.settle.ensures.frozen; told = c.settle.ensures.told }
