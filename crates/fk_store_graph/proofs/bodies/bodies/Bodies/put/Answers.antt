use Rattle.std.proofs.Common.{Some, refl, sym, ap, is_some, ◌∙◌, arith}
use Rattle.fk_store_graph.proofs.InLinked.AlikeLaws.{no_nodes}
use Rattle.fk_store_graph.proofs.InLinked.BodyLaws.{no-body}
use Rattle.fk_store_graph.proofs.InLinked.LinkedLaws.{have_heads}
use Rattle.fk_store_graph.proofs.InBodies.MakeLaws.{made_body, made_key, made_rings, made_nodes, made_others, made_held, made_all, made_all_map, kept_all}
use Rattle.fk_store_graph.proofs.InBodies.MakeLaws.{kept_map, keeps_same, made_filed, not_keyed_there, settled_homes}
use Rattle.fk_store_graph.proofs.InBodies.Results.{any_err}
use Rattle.fk_store_graph.proofs.bodies.bodies.Bodies.put.Goals as goal

-- ---- for want of memory

pub invariant_of-self : goal.invariant_of-self
invariant_of-self c = kept_all _ _ (keeps_same c.self.inside.objects) _ _ _ _ _ c.self.invariant (λ are. are) (omega arith) c.make_room.ensures.same

pub returns-in_err-make_room-clause-err : goal.returns-in_err-make_room-clause-err
returns-in_err-make_room-clause-err c = any_err c.from_residual.result _ (rw (← c.self.view_is) refl)

pub invariant_of-self-in_err-make_nodes : goal.invariant_of-self-in_err-make_nodes
invariant_of-self-in_err-make_nodes c =
    kept_all _ _ (keeps_same c.self.inside.objects) _ _ _ _ _ c.self.invariant
    (λ are. c.make_nodes.ensures.rings _ are) c.make_nodes.ensures.more c.make_room.ensures.same

pub returns-in_err-make_nodes-clause-err : goal.returns-in_err-make_nodes-clause-err
returns-in_err-make_nodes-clause-err c = any_err c.from_residual-in_err-make_nodes.result _ (rw (← c.self.view_is) refl)

pub invariant_of-self-in_err-key : goal.invariant_of-self-in_err-key
invariant_of-self-in_err-key c =
    kept_all _ _ c.in_err-key.ensures.err _ _ _ _ _ c.self.invariant
    (λ are. c.make_nodes.ensures.rings _ are) c.make_nodes.ensures.more c.make_room.ensures.same

pub returns-in_err-key-clause-err : goal.returns-in_err-key-clause-err
returns-in_err-key-clause-err c = any_err c.from_residual-in_err-key.result _ (rw (← c.self.view_is) (kept_map _ _ c.in_err-key.ensures.err))

-- ---- it comes

pub make-requires : goal.make-requires
make-requires c = record { empty = not_keyed_there c.self.inside.objects c.args.who c.filed.ensures (rw (← c.self.view_is) at c.requires.empty) }

pub link_all-requires-clause-small : goal.link_all-requires-clause-small
link_all-requires-clause-small c = c.in_ok-key.ensures.ok.small

pub link_all-requires-clause-long : goal.link_all-requires-clause-long
link_all-requires-clause-long c = rw (← c.in_ok-key.ensures.ok.next) at c.in_ok-make_nodes.ensures.long

pub link_all-requires-clause-heads : goal.link_all-requires-clause-heads
link_all-requires-clause-heads c =
    let empty = not_keyed_there _ c.args.who c.filed.ensures (rw (← c.self.view_is) at c.requires.empty) in
    have_heads _ _ (made_filed _ _ c.filed.ensures c.args.who _ c.args.body empty c.in_ok-key.ensures.ok)
    (made_nodes c.self.inside.objects _ _ _ _ c.filed.ensures c.self.invariant c.args.who _ c.args.body empty c.in_ok-key.ensures.ok _
    c.make_nodes.ensures.more (rw (← c.in_ok-key.ensures.ok.next) at c.in_ok-make_nodes.ensures.long))

pub tell-requires-clause-here : goal.tell-requires-clause-here
tell-requires-clause-here c =
    let empty = not_keyed_there _ c.args.who c.filed.ensures (rw (← c.self.view_is) at c.requires.empty) in
    made_body c.self.inside.objects _ _ _ _ c.filed.ensures c.self.invariant c.args.who _ c.args.body empty c.in_ok-key.ensures.ok

pub tell-requires-clause-others : goal.tell-requires-clause-others
tell-requires-clause-others c =
    let empty = not_keyed_there _ c.args.who c.filed.ensures (rw (← c.self.view_is) at c.requires.empty) in
    made_others c.self.inside.objects _ _ _ _ c.filed.ensures c.self.invariant c.args.who _ c.args.body empty c.in_ok-key.ensures.ok

pub mark_all-requires : goal.mark_all-requires
mark_all-requires c =
    let empty = not_keyed_there _ c.args.who c.filed.ensures (rw (← c.self.view_is) at c.requires.empty) in
    ap is_some (c.tell.ensures.same.keys c.args.who
    ∙ made_key c.self.inside.objects _ _ _ _ c.filed.ensures c.self.invariant c.args.who _ c.args.body empty c.in_ok-key.ensures.ok)

pub invariant_of-self-2 : goal.invariant_of-self-2
invariant_of-self-2 c =
    let empty = not_keyed_there _ c.args.who c.filed.ensures (rw (← c.self.view_is) at c.requires.empty) in
    let makes = c.in_ok-key.ensures.ok in
    let count = made_held c.self.inside.objects _ _ _ _ c.filed.ensures c.self.invariant c.args.who _ c.args.body empty makes _ _ _ c.is_held.ensures
    c.self.invariant.held c.counted-self-inside.ensures in
    made_all c.self.inside.objects _ _ _ _ c.filed.ensures c.self.invariant c.args.who _ c.args.body empty makes _ _ c.tell.ensures.same
    c.mark_all.ensures.keys c.mark_all.ensures.entries c.mark_all.ensures.still c.mark_all.ensures.marked c.tell.ensures.told _ _ _
    (made_rings c.self.inside.objects _ _ _ _ c.filed.ensures c.self.invariant c.args.who _ c.args.body empty makes _
    (c.link_all.ensures.rings _ (no_nodes c.self.inside.objects _ (no-body c.self.inside.objects _ makes.vacant))
    (c.make_nodes.ensures.rings _ c.self.invariant.rings)))
    (let more = c.make_nodes.ensures.more in let long = c.link_all.ensures.long in omega (arith, more, long))
    (let room = rw (← makes.next) at c.in_ok-make_nodes.ensures.long in let long = c.link_all.ensures.long in omega (arith, room, long))
    count (rw (← c.self.view_is) at c.requires.leads) (rw (← c.self.view_is) at c.requires.birth)
    (settled_homes c.args.body _ _ _ c.in_ok-key.key c.birth_of-birth.result c.birth_of-birth.ensures c.settle.ensures c.make_room.ensures.same)

pub returns-clause-ok : goal.returns-clause-ok
returns-clause-ok c =
    let empty = not_keyed_there _ c.args.who c.filed.ensures (rw (← c.self.view_is) at c.requires.empty) in
    rw (← c.self.view_is) (made_all_map c.self.inside.objects _ _ _ _ c.filed.ensures c.self.invariant c.args.who _ c.args.body empty c.in_ok-key.ensures.ok _ _
    c.tell.ensures.same c.mark_all.ensures.keys c.mark_all.ensures.entries c.mark_all.ensures.still)
