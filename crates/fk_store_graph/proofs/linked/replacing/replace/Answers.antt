use Rattle.std.proofs.Common.{◌∙◌}
use Rattle.fk_store_graph.proofs.InLinked.AlikeLaws.{some_body, edited_alike, edited_bodies, replaced_rings, replaced_held}
use Rattle.fk_store_graph.proofs.linked.replacing.replace.Goals as goal

pub returns-clause-alike : goal.returns-clause-alike
returns-clause-alike c = edited_alike _ _ c.args.key c.args.body.now c.put.ensures

pub returns-clause-bodies : goal.returns-clause-bodies
returns-clause-bodies c = edited_bodies _ _ c.args.key c.args.body.now c.put.ensures c.requires.there

pub returns-clause-rings : goal.returns-clause-rings
returns-clause-rings c =
    let found = some_body _ c.args.key c.requires.there in
    replaced_rings _ _ c.filed.ensures c.args.key found.0 c.args.body.now found.1 (edited_alike _ _ c.args.key c.args.body.now c.put.ensures)
    (edited_bodies _ _ c.args.key c.args.body.now c.put.ensures c.requires.there) _ (c.relink.ensures.rings c.requires.rings)

pub returns-clause-held : goal.returns-clause-held
returns-clause-held c =
    let found = some_body _ c.args.key c.requires.there in
    replaced_held _ _ c.filed.ensures c.args.key found.0 c.args.body.now found.1 (edited_alike _ _ c.args.key c.args.body.now c.put.ensures)
    (edited_bodies _ _ c.args.key c.args.body.now c.put.ensures c.requires.there) _ _ c.requires.held (c.relink.ensures.held found.0 found.1)
