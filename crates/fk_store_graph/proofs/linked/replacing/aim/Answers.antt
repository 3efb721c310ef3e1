use Rattle.std.proofs.Common.{is_some, ap, refl}
use Rattle.fk_model.specs.declared.body.Body.TheVariants.{Reference}
use Rattle.fk_store_graph.specs.Leads.Leading.{is_reference}
use Rattle.fk_store_graph.proofs.InLeads.PointerLaws.{single_past, reference_single, reference_held}
use Rattle.fk_store_graph.proofs.InLinked.AlikeLaws.{held_body, own_nodes, small_body, edited_alike, edited_bodies, replaced_rings, replaced_held, same_count}
use Rattle.fk_store_graph.proofs.InLinked.LinkedLaws.{have_heads, single_led}
use Rattle.fk_store_graph.proofs.linked.replacing.aim.Goals as goal

pub link_field-requires-clause-small : goal.link_field-requires-clause-small
link_field-requires-clause-small c =
    let found = held_body _ c.args.key is_reference c.requires.there in small_body _ c.args.key found.0 c.filed.ensures found.1

pub link_field-requires-clause-long : goal.link_field-requires-clause-long
link_field-requires-clause-long c = let found = held_body _ c.args.key is_reference c.requires.there in c.requires.long c.args.key found.0 found.1

pub link_field-requires-clause-heads : goal.link_field-requires-clause-heads
link_field-requires-clause-heads c = have_heads _ _ c.filed.ensures c.requires.long

pub returns-clause-alike : goal.returns-clause-alike
returns-clause-alike c = edited_alike _ _ c.args.key (Reference c.args.to) c.put.ensures

pub returns-clause-bodies : goal.returns-clause-bodies
returns-clause-bodies c =
    let found = held_body _ c.args.key is_reference c.requires.there in edited_bodies _ _ c.args.key (Reference c.args.to) c.put.ensures (ap is_some found.1)

pub returns-clause-rings : goal.returns-clause-rings
returns-clause-rings c =
    let found = held_body _ c.args.key is_reference c.requires.there in
    let b = Reference c.args.to in
    replaced_rings _ _ c.filed.ensures c.args.key found.0 b found.1 (edited_alike _ _ c.args.key b c.put.ensures)
    (edited_bodies _ _ c.args.key b c.put.ensures (ap is_some found.1)) _
    (single_led _ _ _ c.args.key found.0 b (single_past found.0 (reference_single found.0 found.2)) (single_past b refl)
    (own_nodes _ c.args.key found.0 found.1)
    (c.link_field.ensures.rings _ c.requires.rings))

pub returns-clause-held : goal.returns-clause-held
returns-clause-held c = λ n enough.
    let found = held_body _ c.args.key is_reference c.requires.there in
    let b = Reference c.args.to in
    replaced_held _ _ c.filed.ensures c.args.key found.0 b found.1 (edited_alike _ _ c.args.key b c.put.ensures)
    (edited_bodies _ _ c.args.key b c.put.ensures (ap is_some found.1)) n n enough (same_count n found.0 b (reference_held found.0 found.2))
