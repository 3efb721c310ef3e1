use Rattle.std.proofs.Common.{arith}
use Rattle.fk_store_graph.proofs.InBodies.ScanLaws.{first_there, none_there}
use Rattle.fk_store_graph.proofs.bodies.bodies.Bodies.first_in.Goals as goal

pub returns-clause-some : goal.returns-clause-some
returns-clause-some c = rw (← c.self.view_is) (first_there c.self.inside.objects c.filed.ensures c.args.space c.next_in.result c.next_in.ensures.some)

pub returns-clause-none : goal.returns-clause-none
returns-clause-none c none = rw (← c.self.view_is) (none_there c.self.inside.objects c.args.space (c.next_in.ensures.none none))
