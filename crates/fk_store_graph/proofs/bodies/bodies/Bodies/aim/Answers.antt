use Rattle.std.proofs.Common.{sym, ap, is_some, ◌∙◌}
use Rattle.fk_model.specs.declared.body.Body.TheVariants.{Reference}
use Rattle.fk_store_graph.specs.Linked.Leading.{is_reference}
use Rattle.fk_store_graph.proofs.InLinked.BodyLaws.{under_name}
use Rattle.fk_store_graph.proofs.InBodies.QuietLaws.{gone_there}
use Rattle.fk_store_graph.proofs.InBodies.SetLaws.{under_key, reference_unborn, reference_there, set_body, set_others, set_all, set_map}
use Rattle.fk_store_graph.proofs.bodies.bodies.Bodies.aim.Goals as goal

pub aim-requires-clause-there : goal.aim-requires-clause-there
aim-requires-clause-there c =
    under_key _ c.args.who c.in-Some.key (sym c.in-Some.ensures.key) is_reference (rw (← c.self.view_is) at c.requires.reference)

pub tell-requires-clause-here : goal.tell-requires-clause-here
tell-requires-clause-here c = set_body c.self.inside.objects _ _ _ _ c.filed.ensures c.self.invariant c.args.who c.in-Some.key (Reference c.args.to)
    (sym c.in-Some.ensures.key)
    c.aim.ensures.alike c.aim.ensures.bodies

pub tell-requires-clause-others : goal.tell-requires-clause-others
tell-requires-clause-others c = set_others c.self.inside.objects _ _ _ _ c.filed.ensures c.self.invariant c.args.who c.in-Some.key
    (Reference c.args.to) (sym c.in-Some.ensures.key)
    c.aim.ensures.alike c.aim.ensures.bodies

pub mark_all-requires : goal.mark_all-requires
mark_all-requires c = ap is_some (c.tell.ensures.same.keys c.args.who ∙ c.aim.ensures.alike.keys c.args.who ∙ sym c.in-Some.ensures.key)

pub invariant_of-self : goal.invariant_of-self
invariant_of-self c = set_all c.self.inside.objects _ _ _ _ c.filed.ensures c.self.invariant c.args.who c.in-Some.key (Reference c.args.to)
    (sym c.in-Some.ensures.key)
    c.aim.ensures.alike c.aim.ensures.bodies _ _ c.tell.ensures.same c.mark_all.ensures.keys c.mark_all.ensures.entries c.mark_all.ensures.still
    c.mark_all.ensures.marked c.tell.ensures.told _ _ c.aim.ensures.rings c.aim.ensures.long (c.aim.ensures.held _ c.self.invariant.held)
    (rw (← c.self.view_is) at c.requires.leads) (reference_unborn _ (rw (← c.self.view_is) at c.requires.reference))

pub returns-in-Some : goal.returns-in-Some
returns-in-Some c =
    let found = under_name c.self.inside.objects c.args.who c.in-Some.key c.filed.ensures (sym c.in-Some.ensures.key) in
    rw (← c.self.view_is) (set_map c.self.inside.objects _ _ _ _ c.filed.ensures c.self.invariant c.args.who c.in-Some.key (Reference c.args.to)
    (sym c.in-Some.ensures.key)
    c.aim.ensures.alike c.aim.ensures.bodies _ _ c.tell.ensures.same c.mark_all.ensures.keys c.mark_all.ensures.entries c.mark_all.ensures.still
    found.0 found.1)

pub returns-in_default : goal.returns-in_default
returns-in_default c =
    absurd (gone_there c.self.inside.objects c.args.who c.in_default.ensures.key (reference_there _ (rw (← c.self.view_is) at c.requires.reference)))
