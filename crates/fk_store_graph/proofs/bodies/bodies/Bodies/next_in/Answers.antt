use Rattle.fk_store_graph.proofs.InBodies.ScanLaws.{next_there, none_later}
use Rattle.fk_store_graph.proofs.bodies.bodies.Bodies.next_in.Goals as goal

pub returns-clause-some : goal.returns-clause-some
returns-clause-some c = rw (← c.self.view_is)
    (next_there c.self.inside.objects c.filed.ensures c.args.space c.args.slot c.next_in.result c.next_in.ensures.some)

pub returns-clause-none : goal.returns-clause-none
returns-clause-none c none = rw (← c.self.view_is) (none_later c.self.inside.objects c.filed.ensures c.args.space c.args.slot (c.next_in.ensures.none none))
