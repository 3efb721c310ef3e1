use Rattle.fk_store_graph.proofs.InLinks.LinkLaws.{prev-set, next-kept}
use Rattle.fk_store_graph.proofs.links.links.set_prev.Goals as goal

pub returns-clause-next : goal.returns-clause-next
returns-clause-next c = next-kept _ _ _ c.index_mut.result.now c.requires c.index_mut.ensures.value

pub returns-clause-prev : goal.returns-clause-prev
returns-clause-prev c = prev-set _ _ _ c.requires
