use Rattle.std.proofs.Common.{arith, ap, ◌∙◌}
use Rattle.fk_store_graph.proofs.bodies.bodies.make_nodes.Goals as goal

pub room-requires : goal.room-requires
room-requires c = let small = c.in-Some.ensures.small in omega (arith, small)

pub returns-clause-long : goal.returns-clause-long
returns-clause-long c = rw c.in-Some.ensures.key at c.in_ok-room.ensures.long
