use Rattle.std.proofs.Common.{sym, ap, ◌∙◌, is_some}
use Rattle.fk_store_graph.proofs.InLinked.AlikeLaws.{nothing_there}
use Rattle.fk_store_graph.proofs.InLinked.BodyLaws.{body-of}
use Rattle.fk_model.specs.Objects.{holds}
use Rattle.fk_store_graph.specs.Leads.Leading.{is_reference}
use Rattle.fk_store_graph.proofs.InLinked.SweepLaws.{dies, leads_there, freed_swept, freed_less, is_gone, at_other, gone_other}
use Rattle.fk_store_graph.proofs.linked.sweeping.free_one.Goals as goal

pub replace-requires-clause-there : goal.replace-requires-clause-there
replace-requires-clause-there c = ap is_some (body-of _ c.args.other c.in-Some.entry.now (sym c.in-Some.ensures.entry))

pub returns-else-is_reference-clause-swept : goal.returns-else-is_reference-clause-swept
returns-else-is_reference-clause-swept c =
    let leads = c.requires.leads in
    let here = at_other _ c.args.other leads.0 leads.2 c.in-Some.entry.now (sym c.in-Some.ensures.entry) in
    freed_swept _ _ c.filed.ensures c.args.key c.args.sweep (is_gone c.args.sweep c.requires.gone) c.requires.here leads.0 leads.1 leads.3
    c.in-Some.entry.now.who.space c.in-Some.entry.now.body here (rw (c.body-new.ensures, ← leads.2) at c.replace.ensures.bodies) c.replace.ensures.alike.keys

pub returns-else-is_reference-clause-less : goal.returns-else-is_reference-clause-less
returns-else-is_reference-clause-less c =
    let leads = c.requires.leads in
    let here = at_other _ c.args.other leads.0 leads.2 c.in-Some.entry.now (sym c.in-Some.ensures.entry) in
    freed_less _ _ c.filed.ensures c.args.key c.args.sweep (is_gone c.args.sweep c.requires.gone) c.requires.here leads.0 leads.1 leads.3
    c.in-Some.entry.now.who.space c.in-Some.entry.now.body here (rw (c.body-new.ensures, ← leads.2) at c.replace.ensures.bodies) c.replace.ensures.alike.keys

-- a reference is dead
pub returns-then-is_reference-clause-swept : goal.returns-then-is_reference-clause-swept
returns-then-is_reference-clause-swept c =
    let leads = c.requires.leads in
    let here = at_other _ c.args.other leads.0 leads.2 c.in-Some.entry.now (sym c.in-Some.ensures.entry) in
    let now = rw (← leads.2) at c.kill_reference.ensures.bodies in
    freed_swept _ _ c.filed.ensures c.args.key c.args.sweep (is_gone c.args.sweep c.requires.gone) c.requires.here leads.0 leads.1 leads.3
    c.in-Some.entry.now.who.space c.in-Some.entry.now.body here
    (dies _ _ c.filed.ensures c.args.key c.args.sweep c.requires.gone c.requires.here leads.0 leads.3 c.in-Some.entry.now.who.space
    c.in-Some.entry.now.body here
    (sym c.is_reference.ensures ∙ c.if-is_reference.true) now) c.kill_reference.ensures.alike.keys

pub returns-then-is_reference-clause-less : goal.returns-then-is_reference-clause-less
returns-then-is_reference-clause-less c =
    let leads = c.requires.leads in
    let here = at_other _ c.args.other leads.0 leads.2 c.in-Some.entry.now (sym c.in-Some.ensures.entry) in
    let now = rw (← leads.2) at c.kill_reference.ensures.bodies in
    freed_less _ _ c.filed.ensures c.args.key c.args.sweep (is_gone c.args.sweep c.requires.gone) c.requires.here leads.0 leads.1 leads.3
    c.in-Some.entry.now.who.space c.in-Some.entry.now.body here
    (dies _ _ c.filed.ensures c.args.key c.args.sweep c.requires.gone c.requires.here leads.0 leads.3 c.in-Some.entry.now.who.space
    c.in-Some.entry.now.body here
    (sym c.is_reference.ensures ∙ c.if-is_reference.true) now) c.kill_reference.ensures.alike.keys

pub kill_reference-requires-clause-there : goal.kill_reference-requires-clause-there
kill_reference-requires-clause-there c =
    ap (holds is_reference) (body-of _ c.args.other c.in-Some.entry.now (sym c.in-Some.ensures.entry)) ∙ sym c.is_reference.ensures ∙ c.if-is_reference.true

pub returns-then-is_reference-clause-held : goal.returns-then-is_reference-clause-held
returns-then-is_reference-clause-held c = c.kill_reference.ensures.held _ c.requires.held

-- it is there, since it leads there
pub returns-in_default-clause-alike : goal.returns-in_default-clause-alike
returns-in_default-clause-alike c = absurd (gone_other _ c.filed.ensures c.args.sweep.from c.args.key c.requires.here c.args.other c.requires.leads
    c.in_default.ensures.entry)

pub returns-in_default-clause-swept : goal.returns-in_default-clause-swept
returns-in_default-clause-swept c = absurd (gone_other _ c.filed.ensures c.args.sweep.from c.args.key c.requires.here c.args.other c.requires.leads
    c.in_default.ensures.entry)

pub returns-in_default-clause-less : goal.returns-in_default-clause-less
returns-in_default-clause-less c = absurd (gone_other _ c.filed.ensures c.args.sweep.from c.args.key c.requires.here c.args.other c.requires.leads
    c.in_default.ensures.entry)
