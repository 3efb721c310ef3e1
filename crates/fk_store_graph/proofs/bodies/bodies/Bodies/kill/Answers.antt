use Rattle.std.proofs.Common.{refl, sym, ap, is_some, ◌∙◌}
use Rattle.fk_store_graph.proofs.InLinked.AlikeLaws.{alike_filed}
use Rattle.fk_store_graph.proofs.InLinked.BodyLaws.{entry_there}
use Rattle.fk_store_graph.proofs.InLinked.HomeLaws.{born_low}
use Rattle.fk_store_graph.proofs.InBodies.KillLaws.{left_empty, killed_by, killed_map_by}
use Rattle.fk_store_graph.proofs.InBodies.QuietLaws.{gone_there}
use Rattle.fk_store_graph.proofs.bodies.bodies.Bodies.kill.Goals as goal

pub free_all-requires-clause-here : goal.free_all-requires-clause-here
free_all-requires-clause-here c = sym c.in-Some.ensures.key

pub take_away-requires-clause-there : goal.take_away-requires-clause-there
take_away-requires-clause-there c =
    let alike = c.free_all.ensures.swept.alike in
    let found = entry_there _ c.args.who c.in-Some.key (alike_filed _ _ alike c.filed.ensures) (alike.keys c.args.who ∙ sym c.in-Some.ensures.key) in
    ap is_some found.1

pub leave-requires-clause-low : goal.leave-requires-clause-low
leave-requires-clause-low c n is = born_low _ _ c.filed.ensures c.self.invariant.homed n c.in-Some.key (sym c.birth_under-birth.ensures ∙ is)

pub leave-requires-clause-empty : goal.leave-requires-clause-empty
leave-requires-clause-empty c = left_empty c.self.inside.objects _ _ c.filed.ensures c.args.who c.in-Some.key
    (sym c.in-Some.ensures.key) _ c.free_all.ensures.swept
    c.take_away.ensures.gone c.birth_under-birth.result c.birth_under-birth.ensures (rw (← c.self.view_is) at c.requires.empty)

pub invariant_of-self : goal.invariant_of-self
invariant_of-self c = killed_by c.self.inside.objects _ _ _ _ _ _ c.filed.ensures c.self.invariant c.args.who c.in-Some.key (sym c.in-Some.ensures.key)
    c.free_all.ensures.swept c.take_away.ensures.gone c.birth_under-birth.result c.birth_under-birth.ensures c.leave.ensures.keys c.leave.ensures.entries
    c.leave.ensures.marks (rw (← c.self.view_is) at c.requires.empty) _ _ _ c.take_away.ensures.rings (c.take_away.ensures.long ∙ c.free_all.ensures.long)
    c.take_away.ensures.held c.leave.ensures.homes

pub returns-in-Some : goal.returns-in-Some
returns-in-Some c = rw (← c.self.view_is)
    (killed_map_by c.self.inside.objects _ _ _ _ _ _ c.filed.ensures c.self.invariant c.args.who c.in-Some.key (sym c.in-Some.ensures.key)
    c.free_all.ensures.swept c.take_away.ensures.gone c.birth_under-birth.result c.birth_under-birth.ensures c.leave.ensures.keys c.leave.ensures.entries
    c.leave.ensures.marks (rw (← c.self.view_is) at c.requires.empty))

pub returns-in_default : goal.returns-in_default
returns-in_default c = absurd (gone_there c.self.inside.objects c.args.who c.in_default.ensures.key (rw (← c.self.view_is) at c.requires.there))
