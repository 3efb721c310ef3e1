use Rattle.fk_store_graph.proofs.InLinks.LinkLaws.{prev-read}
use Rattle.fk_store_graph.proofs.links.links.prev_of.Goals as goal

pub returns : goal.returns
returns c = prev-read _ _ c.index.result.now c.requires c.index.ensures
