use Rattle.std.proofs.Common.{◌∙◌}
use Rattle.fk_cut.proofs.InClosing.Leads.{plain_kind, far_nothing, seen_as, far_mapping, far_region, far_reference, far_space, far_thread}
use Rattle.fk_cut.proofs.closing.far.far_field.Goals as goal

pub returns-in-Mapping : goal.returns-in-Mapping
returns-in-Mapping c = λ q is. c.first_field.ensures ∙ seen_as c.args.store.now c.args.root q _ _ _ c.in-Mapping.is
    (far_mapping c.args.store.now c.args.root q _ _ _ _ c.in-Mapping.region c.leads_out.result c.leads_out.ensures)

pub returns-in-Space : goal.returns-in-Space
returns-in-Space c = λ q is. c.first_field-in-Space.ensures ∙ seen_as c.args.store.now c.args.root q _ _ _ c.in-Space.is
    (far_space c.args.store.now c.args.root q _ c.in-Space.holder c.is_held_outside.result (c.is_held_outside.ensures q is))

pub returns-in-Thread : goal.returns-in-Thread
returns-in-Thread c = λ q is. c.first_side.ensures ∙ seen_as c.args.store.now c.args.root q _ _ _ c.in-Thread.is
    (far_thread c.args.store.now c.args.root q c.in-Thread.thread c.is_talk_far.result c.is_fault_far.result c.is_talk_far.ensures c.is_fault_far.ensures)

pub returns-in-Mutex : goal.returns-in-Mutex
returns-in-Mutex c = λ q is. far_nothing c.args.store.now c.args.root q c.args.body.now (plain_kind c.args.body.now c.in-Mutex.is)

pub returns-in-Mutex-2 : goal.returns-in-Mutex-2
returns-in-Mutex-2 c = λ q is. far_nothing c.args.store.now c.args.root q c.args.body.now (plain_kind c.args.body.now c.in-Mutex.is)

pub returns-in-Mutex-3 : goal.returns-in-Mutex-3
returns-in-Mutex-3 c = λ q is. far_nothing c.args.store.now c.args.root q c.args.body.now (plain_kind c.args.body.now c.in-Mutex.is)

pub returns-in-Mutex-4 : goal.returns-in-Mutex-4
returns-in-Mutex-4 c = λ q is. far_nothing c.args.store.now c.args.root q c.args.body.now (plain_kind c.args.body.now c.in-Mutex.is)

pub returns-in-Region : goal.returns-in-Region
returns-in-Region c = λ q is. c.first_field-in-Region.ensures ∙ seen_as c.args.store.now c.args.root q _ _ _ c.in-Region.is
    (far_region c.args.store.now c.args.root q _ _ _ c.in-Region.keeper c.leads_far.result c.leads_far.ensures)

pub returns-in-Reference : goal.returns-in-Reference
returns-in-Reference c = λ q is. c.first_field-in-Reference.ensures ∙ seen_as c.args.store.now c.args.root q _ _ _ c.in-Reference.is
    (far_reference c.args.store.now c.args.root q c.in-Reference.to c.leads_far-in-Reference.result c.leads_far-in-Reference.ensures)
