use Rattle.std.proofs.Common.{Some, sym, ap, ◌∙◌}
use Rattle.fk_store_graph.proofs.InLinked.TabledLaws.{get-rows}
use Rattle.fk_store_graph.proofs.InLinked.NameLaws.{page_naming}
use Rattle.fk_store_graph.proofs.bodies.pages.Pages.at.Goals as goal

pub returns-in-None : goal.returns-in-None
returns-in-None c = rw (← c.self.view_is) (c.in-None.ensures ∙ sym (get-rows page_naming _ c.args.space c.args.page))

pub returns-in-Some : goal.returns-in-Some
returns-in-Some c = rw (← c.self.view_is) (ap Some c.words.ensures ∙ c.in-Some.ensures ∙ sym (get-rows page_naming _ c.args.space c.args.page))
