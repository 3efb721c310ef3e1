use Rattle.fk_store_graph.proofs.InLinked.NameLaws.{page_naming}
use Rattle.fk_store_graph.proofs.InLinked.TabledLaws.{rows_nil}
use Rattle.fk_store_graph.proofs.bodies.pages.Pages.new.Goals as goal

pub returns : goal.returns
returns c = rw c.new.ensures.items (rows_nil page_naming)
