use Rattle.fk_store_graph.proofs.InLinks.NodeLaws.{linked_same, rings_same}
use Rattle.fk_store_graph.proofs.links.links.Links.room.Goals as goal

pub invariant_of-self : goal.invariant_of-self
invariant_of-self c = linked_same _ _ c.grow.ensures.next c.grow.ensures.prev (c.grow.ensures.few c.self.invariant.small) c.self.invariant

pub returns-clause-rings : goal.returns-clause-rings
returns-clause-rings c owner are = rings_same _ _ c.grow.ensures.next c.grow.ensures.prev owner (rw (← c.self.view_is) at are)
