use Rattle.fk_store_graph.proofs.InLinked.TabledLaws.{remove_rows}
use Rattle.fk_store_graph.proofs.InLinked.NameLaws.{page_naming}
use Rattle.fk_store_graph.proofs.bodies.pages.Pages.remove.Goals as goal

pub returns : goal.returns
returns c = rw (← c.self.view_is) (remove_rows page_naming _ _ c.args.space c.args.page c.take_value-gone.ensures.left)
