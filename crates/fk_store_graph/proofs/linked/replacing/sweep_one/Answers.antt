use Rattle.std.proofs.Common.{sym, ap, ◌∙◌}
use Rattle.fk_model.specs.declared.body.Body.TheVariants.{Reference}
use Rattle.fk_store_graph.specs.Leads.Sweeps.{body_after}
use Rattle.fk_store_graph.proofs.InLinked.AlikeLaws.{swept_none, swept_one}
use Rattle.fk_store_graph.proofs.linked.replacing.sweep_one.Goals as goal

pub returns-in-Reference : goal.returns-in-Reference
returns-in-Reference c =
    let after = ap Reference c.pointer-to.ensures ∙ sym (ap (body_after c.args.sweep c.in-Some.entry.now.who.space) c.in-Reference.is) in
    swept_one _ c.args.sweep c.args.key _ c.in-Some.entry.now c.in-Some.ensures.entry (rw after at c.put.ensures)

pub returns-in_default-body : goal.returns-in_default-body
returns-in_default-body c =
    swept_one _ c.args.sweep c.args.key _ c.in-Some.entry.now c.in-Some.ensures.entry (rw c.body-new.ensures at c.put-in_default-body.ensures)

pub returns-in_default : goal.returns-in_default
returns-in_default c = swept_none _ c.args.sweep c.args.key c.in_default.ensures.entry
