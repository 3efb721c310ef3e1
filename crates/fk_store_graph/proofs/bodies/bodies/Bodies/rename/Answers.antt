use Rattle.std.proofs.Common.{Some, refl, sym, ap, is_some, ◌∙◌}
use Rattle.fk_store_graph.proofs.InLinked.AlikeLaws.{alike_filed}
use Rattle.fk_store_graph.proofs.InLinked.BodyLaws.{entry_there, name-of}
use Rattle.fk_store_graph.proofs.InBodies.MakeLaws.{not_keyed_there}
use Rattle.fk_store_graph.proofs.InBodies.QuietLaws.{gone_there}
use Rattle.fk_store_graph.proofs.InBodies.RenameLaws.{other_name, in_space, renamed_by, renamed_map_by}
use Rattle.fk_store_graph.proofs.bodies.bodies.Bodies.rename.Goals as goal

pub rename_all-requires-clause-here : goal.rename_all-requires-clause-here
rename_all-requires-clause-here c = sym c.in-Some.ensures.key

pub rename_all-requires-clause-other : goal.rename_all-requires-clause-other
rename_all-requires-clause-other c = other_name c.self.inside.objects c.args.from c.args.to c.in-Some.key (sym c.in-Some.ensures.key)
    (not_keyed_there c.self.inside.objects c.args.to c.filed.ensures (rw (← c.self.view_is) at c.requires.free))

pub rename-requires-clause-there : goal.rename-requires-clause-there
rename-requires-clause-there c =
    let alike = c.rename_all.ensures.alike in
    let found = entry_there _ c.args.from c.in-Some.key (alike_filed _ _ alike c.filed.ensures) (alike.keys c.args.from ∙ sym c.in-Some.ensures.key) in
    ap is_some found.1

pub rename-requires-clause-space : goal.rename-requires-clause-space
rename-requires-clause-space c = in_space _ _ c.rename_all.ensures.alike c.filed.ensures c.args.from c.args.to c.in-Some.key
    (sym c.in-Some.ensures.key) c.requires.space

pub rename-requires-clause-free : goal.rename-requires-clause-free
rename-requires-clause-free c = c.rename_all.ensures.alike.keys c.args.to
    ∙ not_keyed_there c.self.inside.objects c.args.to c.filed.ensures (rw (← c.self.view_is) at c.requires.free)

pub invariant_of-self : goal.invariant_of-self
invariant_of-self c = renamed_by c.self.inside.objects _ _ _ _ _ _ c.filed.ensures c.self.invariant c.in-Some.key c.args.from c.args.to
    (sym c.in-Some.ensures.key)
    (not_keyed_there c.self.inside.objects c.args.to c.filed.ensures (rw (← c.self.view_is) at c.requires.free)) c.rename_all.ensures c.rename.ensures
    c.mark_again.ensures.keys c.mark_again.ensures.entries c.mark_again.ensures.still c.mark_again.ensures.marked

pub returns-in-Some : goal.returns-in-Some
returns-in-Some c = rw (← c.self.view_is)
    (renamed_map_by c.self.inside.objects _ _ _ _ _ _ c.filed.ensures c.self.invariant c.in-Some.key c.args.from c.args.to (sym c.in-Some.ensures.key)
    (not_keyed_there c.self.inside.objects c.args.to c.filed.ensures (rw (← c.self.view_is) at c.requires.free)) c.rename_all.ensures c.rename.ensures
    c.mark_again.ensures.keys c.mark_again.ensures.entries c.mark_again.ensures.still c.mark_again.ensures.marked)

pub returns-in_default : goal.returns-in_default
returns-in_default c = absurd (gone_there c.self.inside.objects c.args.from c.in_default.ensures.key (rw (← c.self.view_is) at c.requires.there))
