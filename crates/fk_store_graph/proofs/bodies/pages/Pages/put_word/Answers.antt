use Rattle.std.proofs.Common.{sym, ◌∙◌}
use Rattle.fk_store_graph.proofs.InLinked.TabledLaws.{get-rows, relaid_rows}
use Rattle.fk_store_graph.proofs.InLinked.NameLaws.{page_naming}
use Rattle.fk_store_graph.proofs.InBodies.ScanLaws.{page_not_gone}
use Rattle.fk_store_graph.proofs.bodies.pages.Pages.put_word.Goals as goal

pub returns-in-Some : goal.returns-in-Some
returns-in-Some c =
    let there = get-rows page_naming _ c.args.space c.args.page ∙ sym c.in-Some.ensures.taken in
    let laid = rw c.put.ensures at c.lay_value.ensures.laid in
    rw (← c.self.view_is, there) (relaid_rows page_naming _ _ _ c.args.space c.args.page _ c.take_value.ensures.left laid)

pub returns-in_default : goal.returns-in_default
returns-in_default c = absurd (page_not_gone _ c.args.space c.args.page c.in_default.ensures.taken (rw (← c.self.view_is) at c.requires.there))
