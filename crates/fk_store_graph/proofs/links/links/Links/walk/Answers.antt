use Rattle.fk_store_graph.proofs.InLinks.NodeLaws.{next_within}
use Rattle.fk_store_graph.proofs.InLinks.WalkLaws.{leaders_come, small_walk}
use Rattle.fk_store_graph.proofs.links.links.Links.walk.Goals as goal

pub new-requires-clause-there : goal.new-requires-clause-there
new-requires-clause-there c = rw c.next_of-node.ensures (next_within _ c.args.head c.self.invariant (rw (← c.self.view_is) at c.requires.there))

pub returns-clause-all : goal.returns-clause-all
returns-clause-all c = λ owner are.
    rw (c.new.ensures, c.next_of-node.ensures)
    (leaders_come _ c.args.head c.requires.head (rw (← c.self.view_is) at c.requires.there) c.self.invariant owner (rw (← c.self.view_is) at are))

pub returns-clause-few : goal.returns-clause-few
returns-clause-few c = rw c.new.ensures (small_walk _ c.args.head _ c.self.invariant)
