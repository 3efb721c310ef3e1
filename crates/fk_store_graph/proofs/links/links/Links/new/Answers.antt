use Rattle.fk_store_graph.proofs.InLinks.NodeLaws.{linked_none, rings_none}
use Rattle.fk_store_graph.proofs.links.links.Links.new.Goals as goal

pub invariant_of-result : goal.invariant_of-result
invariant_of-result c = rw c.new.ensures.items linked_none

pub returns-clause-rings : goal.returns-clause-rings
returns-clause-rings c = rw c.new.ensures.items rings_none
