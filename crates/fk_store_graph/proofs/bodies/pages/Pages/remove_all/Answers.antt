use Rattle.fk_store_graph.proofs.InBodies.ScanLaws.{get-cleared}
use Rattle.fk_store_graph.proofs.bodies.pages.Pages.remove_all.Goals as goal

pub returns-in-Some : goal.returns-in-Some
returns-in-Some c = rw (c.in-Some.is, ← c.self.view_is) (get-cleared _ _ c.in-Some.space c.clear_row.ensures.left)
