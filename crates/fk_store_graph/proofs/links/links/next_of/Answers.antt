use Rattle.fk_store_graph.proofs.InLinks.LinkLaws.{next-read}
use Rattle.fk_store_graph.proofs.links.links.next_of.Goals as goal

pub returns : goal.returns
returns c = next-read _ _ c.index.result.now c.requires c.index.ensures
