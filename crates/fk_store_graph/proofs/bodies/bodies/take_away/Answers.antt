use Rattle.std.proofs.Common.{sym, ap, is_some, ◌∙◌}
use Rattle.fk_store_graph.proofs.InLinked.AlikeLaws.{own_nodes, small_key, some_entry}
use Rattle.fk_store_graph.proofs.InLinked.BodyLaws.{body-of, name-of}
use Rattle.fk_store_graph.proofs.InLinked.LinkedLaws.{no_lead}
use Rattle.fk_store_graph.proofs.InBodies.KillLaws.{gone_rings, gone_held}
use Rattle.fk_store_graph.proofs.bodies.bodies.take_away.Goals as goal

pub unlink_all-requires-clause-small : goal.unlink_all-requires-clause-small
unlink_all-requires-clause-small c = let found = some_entry _ c.args.key c.requires.there in small_key _ c.args.key found.0 c.filed.ensures found.1

pub unlink_all-requires-clause-long : goal.unlink_all-requires-clause-long
unlink_all-requires-clause-long c =
    let found = some_entry _ c.args.key c.requires.there in c.requires.long c.args.key found.0.body (body-of _ c.args.key found.0 found.1)

pub returns-clause-gone : goal.returns-clause-gone
returns-clause-gone c = c.remove.ensures

pub returns-clause-rings : goal.returns-clause-rings
returns-clause-rings c =
    let found = some_entry _ c.args.key c.requires.there in
    let here = body-of _ c.args.key found.0 found.1 in
    gone_rings _ _ c.filed.ensures found.0.who c.args.key found.0 (c.filed.ensures.found c.args.key found.0.who (name-of _ c.args.key found.0 found.1)) found.1
    (c.remove.ensures found.0 found.1) c.requires.alone _ (c.unlink_all.ensures.rings _ (λ i past few. own_nodes _ c.args.key found.0.body here i few
    ∙ no_lead _ found.0.body i (c.ends_under.ensures.past found.0.body here i past few)) c.requires.rings)

pub returns-clause-held : goal.returns-clause-held
returns-clause-held c =
    let found = some_entry _ c.args.key c.requires.there in
    gone_held _ _ c.filed.ensures found.0.who c.args.key found.0 (c.filed.ensures.found c.args.key found.0.who (name-of _ c.args.key found.0 found.1)) found.1
    (c.remove.ensures found.0 found.1) _ _ c.is_held_under-was.result c.is_held_under-was.ensures c.requires.held c.counted.ensures
