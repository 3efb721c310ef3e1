use Rattle.std.proofs.Common.{◌≤◌, ◌<◌, ◌+◌, ◌*◌, length, is_some, refl, sym, ap, ◌∙◌, arith}
use Rattle.fk_model.specs.declared.body.Body.TheVariants.{Reference}
use Rattle.fk_model.specs.declared.names.Ptr.TheVariants.{Dead}
use Rattle.fk_store_graph.specs.Leads.Leading.{is_reference}
use Rattle.fk_store_graph.proofs.InLinked.AlikeLaws.{held_body, some_body, own_nodes, small_body, edited_alike, edited_bodies, replaced_rings, replaced_held}
use Rattle.fk_store_graph.proofs.InLinked.AlikeLaws.{same_count}
use Rattle.fk_store_graph.proofs.InLinked.LinkedLaws.{pointer_node, single_rings}
use Rattle.fk_store_graph.proofs.InLeads.PointerLaws.{single_past, reference_single, dead_leads, reference_held}
use Rattle.fk_store_graph.proofs.linked.replacing.kill_reference.Goals as goal

pub node_of-requires : goal.node_of-requires
node_of-requires c =
    let found = held_body _ c.args.key is_reference c.requires.there in
    let low = small_body _ c.args.key found.0 c.filed.ensures found.1 in omega (arith, low)

pub point-requires-clause-node : goal.point-requires-clause-node
point-requires-clause-node c =
    let found = held_body _ c.args.key is_reference c.requires.there in
    let long = c.requires.long c.args.key found.0 found.1 in rw c.node_of.ensures (omega (arith, long))

pub point-requires-clause-pointer : goal.point-requires-clause-pointer
point-requires-clause-pointer c = rw c.node_of.ensures (pointer_node c.args.key 0 (omega arith) (λ two. absurd (omega (arith, two))))

pub returns-clause-alike : goal.returns-clause-alike
returns-clause-alike c = edited_alike _ _ c.args.key (Reference Dead) c.put.ensures

pub returns-clause-bodies : goal.returns-clause-bodies
returns-clause-bodies c =
    let found = held_body _ c.args.key is_reference c.requires.there in edited_bodies _ _ c.args.key (Reference Dead) c.put.ensures (ap is_some found.1)

pub returns-clause-rings : goal.returns-clause-rings
returns-clause-rings c =
    let found = held_body _ c.args.key is_reference c.requires.there in
    let single = reference_single found.0 found.2 in
    replaced_rings _ _ c.filed.ensures c.args.key found.0 (Reference Dead) found.1 (edited_alike _ _ c.args.key (Reference Dead) c.put.ensures)
    (edited_bodies _ _ c.args.key (Reference Dead) c.put.ensures (ap is_some found.1)) _
    (single_rings _ _ _ c.args.key found.0 (Reference Dead) (single_past found.0 single) dead_leads (own_nodes _ c.args.key found.0 found.1)
    (rw c.node_of.ensures at c.point.ensures.rings _ c.requires.rings))

pub returns-clause-held : goal.returns-clause-held
returns-clause-held c = λ n enough.
    let found = held_body _ c.args.key is_reference c.requires.there in
    replaced_held _ _ c.filed.ensures c.args.key found.0 (Reference Dead) found.1 (edited_alike _ _ c.args.key (Reference Dead) c.put.ensures)
    (edited_bodies _ _ c.args.key (Reference Dead) c.put.ensures (ap is_some found.1)) n n enough
    (same_count n found.0 (Reference Dead) (reference_held found.0 found.2))
