use Rattle.std.proofs.Common.{IsSome, subst, sym, ◌∙◌}
use Rattle.fk_store_graph.proofs.InLinked.TabledLaws.{get-rows, relaid_rows}
use Rattle.fk_store_graph.proofs.InLinked.NameLaws.{page_naming}
use Rattle.fk_store_graph.proofs.InBodies.CopyLaws.{words_left}
use Rattle.fk_store_graph.proofs.InBodies.ScanLaws.{page_not_gone}
use Rattle.fk_store_graph.proofs.bodies.pages.Pages.copy_words.Goals as goal

pub returns-in-Some : goal.returns-in-Some
returns-in-Some c =
    let there = get-rows page_naming _ c.args.to.0 c.args.to.1 ∙ sym c.in-Some.ensures.taken in
    let from = get-rows page_naming _ c.args.from.0 c.args.from.1 in
    let words = words_left _ _ c.args.to.0 c.args.to.1 c.args.from.0 c.args.from.1 _ c.in-Some.ensures.taken c.take_value.ensures.left
    (subst IsSome from (rw (← c.self.view_is) at c.requires.from)) in
    let laid = rw (c.overwrite_of.ensures, words) at c.lay_value.ensures.laid in
    rw (← c.self.view_is, there, from) (relaid_rows page_naming _ _ _ c.args.to.0 c.args.to.1 _ c.take_value.ensures.left laid)

pub returns-in_default : goal.returns-in_default
returns-in_default c = absurd (page_not_gone _ c.args.to.0 c.args.to.1 c.in_default.ensures.taken (rw (← c.self.view_is) at c.requires.to))
