use Rattle.fk_store_graph.proofs.InBodies.ScanLaws.{after-is}
use Rattle.fk_store_graph.proofs.bodies.bodies.Bodies.after.Goals as goal

pub returns : goal.returns
returns c = rw (← c.self.view_is) (after-is c.self.inside.objects c.filed.ensures c.args.who _ _ c.start_after-space.ensures c.next_taken.result
    c.next_taken.ensures.some c.next_taken.ensures.none)
