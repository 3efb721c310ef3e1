use Rattle.fk_store_graph.proofs.InBodies.FreshLaws.{fresh_all, fresh_map}
use Rattle.fk_store_graph.proofs.bodies.bodies.Bodies.new.Goals as goal

pub invariant_of-result : goal.invariant_of-result
invariant_of-result c = rw (c.new.ensures, c.new-2.ensures.none, c.new-3.ensures.items) (fresh_all (rw c.new-2.ensures.none at c.new-2.ensures.rings))

pub returns : goal.returns
returns c = rw c.new.ensures fresh_map
