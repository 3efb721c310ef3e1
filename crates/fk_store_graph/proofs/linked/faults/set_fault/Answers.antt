use Rattle.std.proofs.Common.{is_some, refl, ap}
use Rattle.fk_model.specs.declared.body.Body.TheVariants.{Thread}
use Rattle.fk_store_graph.specs.Leads.Leading.{with_fault}
use Rattle.fk_store_graph.proofs.InLinked.AlikeLaws.{edited_alike, edited_bodies, replaced_held, replaced_rings, same_count, small_body}
use Rattle.fk_store_graph.proofs.InLinked.FaultLaws.{fault_edits, fault_rings, first_led, second_led}
use Rattle.fk_store_graph.proofs.InLinked.LinkedLaws.{have_heads, heads_longer}
use Rattle.fk_store_graph.proofs.linked.faults.set_fault.Goals as goal

pub link_fault-requires-clause-small : goal.link_fault-requires-clause-small
link_fault-requires-clause-small c =
    let t = c.requires.thread in small_body _ c.args.key (Thread t.0) c.filed.ensures t.1

pub link_fault-requires-clause-long : goal.link_fault-requires-clause-long
link_fault-requires-clause-long c = let t = c.requires.thread in c.requires.long c.args.key (Thread t.0) t.1

pub link_fault-requires-clause-heads : goal.link_fault-requires-clause-heads
link_fault-requires-clause-heads c = have_heads _ _ c.filed.ensures c.requires.long

pub link_fault-requires-2-clause-small : goal.link_fault-requires-2-clause-small
link_fault-requires-2-clause-small c =
    let t = c.requires.thread in small_body _ c.args.key (Thread t.0) c.filed.ensures t.1

pub link_fault-requires-2-clause-long : goal.link_fault-requires-2-clause-long
link_fault-requires-2-clause-long c =
    let t = c.requires.thread in rw c.link_fault.ensures.long (c.requires.long c.args.key (Thread t.0) t.1)

pub link_fault-requires-2-clause-heads : goal.link_fault-requires-2-clause-heads
link_fault-requires-2-clause-heads c = heads_longer _ _ _ c.link_fault.ensures.long (have_heads _ _ c.filed.ensures c.requires.long)

pub returns-clause-alike : goal.returns-clause-alike
returns-clause-alike c =
    let t = c.requires.thread in
    edited_alike _ _ c.args.key (with_fault t.0 c.args.fault) (fault_edits _ _ c.args.key t.0 c.args.fault t.1 c.set_fault.ensures)

pub returns-clause-bodies : goal.returns-clause-bodies
returns-clause-bodies c = λ t there.
    edited_bodies _ _ c.args.key (with_fault t c.args.fault) (fault_edits _ _ c.args.key t c.args.fault there c.set_fault.ensures) (ap is_some there)

pub returns-clause-rings : goal.returns-clause-rings
returns-clause-rings c =
    let t = c.requires.thread in
    let b = with_fault t.0 c.args.fault in
    let edits = fault_edits _ _ c.args.key t.0 c.args.fault t.1 c.set_fault.ensures in
    let old = c.fault_under-old.ensures t.0 t.1 in
    replaced_rings _ _ c.filed.ensures c.args.key (Thread t.0) b t.1 (edited_alike _ _ c.args.key b edits)
    (edited_bodies _ _ c.args.key b edits (ap is_some t.1)) _
    (fault_rings _ c.args.key t.0 t.1 _ c.args.fault
    (c.link_fault-2.ensures.rings _ (second_led _ c.args.key t.0 t.1 c.fault_under-old.result old _)
    (c.link_fault.ensures.rings _ (first_led _ c.args.key t.0 t.1 c.fault_under-old.result old) c.requires.rings)))

pub returns-clause-held : goal.returns-clause-held
returns-clause-held c = λ n enough.
    let t = c.requires.thread in
    let b = with_fault t.0 c.args.fault in
    let edits = fault_edits _ _ c.args.key t.0 c.args.fault t.1 c.set_fault.ensures in
    replaced_held _ _ c.filed.ensures c.args.key (Thread t.0) b t.1 (edited_alike _ _ c.args.key b edits)
    (edited_bodies _ _ c.args.key b edits (ap is_some t.1)) n n enough (same_count n (Thread t.0) b refl)
