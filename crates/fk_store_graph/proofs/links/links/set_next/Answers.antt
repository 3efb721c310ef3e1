use Rattle.fk_store_graph.proofs.InLinks.LinkLaws.{next-set, prev-kept}
use Rattle.fk_store_graph.proofs.links.links.set_next.Goals as goal

pub returns-clause-next : goal.returns-clause-next
returns-clause-next c = next-set _ _ _ c.requires

pub returns-clause-prev : goal.returns-clause-prev
returns-clause-prev c = prev-kept _ _ _ c.index_mut.result.now c.requires c.index_mut.ensures.value
