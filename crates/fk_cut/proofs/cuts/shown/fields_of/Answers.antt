use Rattle.std.proofs.Common.{◌∙◌}
use Rattle.fk_cut.proofs.InClosing.Leads.{plain_kind}
use Rattle.fk_cut.proofs.InCuts.Shows.{shown_as, shows_mapping, shows_region, shows_reference, shows_space, thread_ok, shows_nothing}
use Rattle.fk_cut.proofs.cuts.shown.fields_of.Goals as goal

pub returns-in_ok-shown_pointer-in-Mapping : goal.returns-in_ok-shown_pointer-in-Mapping
returns-in_ok-shown_pointer-in-Mapping c = λ q is. c.alone.ensures ∙ shown_as c.args.store.now c.args.root q _ _ _ c.in-Mapping.is
    (shows_mapping c.args.store.now c.args.root q _ _ _ _ c.in-Mapping.region _ c.in_ok-shown_pointer-in-Mapping.ensures)

pub returns-in_ok-shown_pointer-in-Region : goal.returns-in_ok-shown_pointer-in-Region
returns-in_ok-shown_pointer-in-Region c = λ q is. c.alone-in-Region.ensures ∙ shown_as c.args.store.now c.args.root q _ _ _ c.in-Region.is
    (shows_region c.args.store.now c.args.root q _ _ _ c.in-Region.keeper _ c.in_ok-shown_pointer-in-Region.ensures)

pub returns-in_ok-shown_pointer-in-Reference : goal.returns-in_ok-shown_pointer-in-Reference
returns-in_ok-shown_pointer-in-Reference c = λ q is. c.alone-in-Reference.ensures ∙ shown_as c.args.store.now c.args.root q _ _ _ c.in-Reference.is
    (shows_reference c.args.store.now c.args.root q c.in-Reference.to _ c.in_ok-shown_pointer-in-Reference.ensures)

pub returns-in_ok-shown_holder-in-Space : goal.returns-in_ok-shown_holder-in-Space
returns-in_ok-shown_holder-in-Space c = λ q is. c.alone-in-Space.ensures ∙ shown_as c.args.store.now c.args.root q _ _ _ c.in-Space.is
    (shows_space c.args.store.now c.args.root q _ c.in-Space.holder _ (c.in_ok-shown_holder-in-Space.ensures q is))

pub returns-in-Thread : goal.returns-in-Thread
returns-in-Thread c = λ q is.
    thread_ok c.args.store.now c.args.root q c.args.body.now c.in-Thread.thread c.in-Thread.is c.thread_fields.result c.thread_fields.ensures

pub returns-in-Mutex : goal.returns-in-Mutex
returns-in-Mutex c = λ q is.
    c.alone-in-Mutex.ensures ∙ shows_nothing c.args.store.now c.args.root q c.args.body.now (plain_kind c.args.body.now c.in-Mutex.is)
