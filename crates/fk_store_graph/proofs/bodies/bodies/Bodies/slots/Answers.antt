use Rattle.std.proofs.Common.{ap, is_some}
use Rattle.fk_store_graph.proofs.InLinked.BodyLaws.{get_under}
use Rattle.fk_store_graph.proofs.bodies.bodies.Bodies.slots.Goals as goal

pub returns : goal.returns
returns c = rw (← c.self.view_is) (λ q b there. let found = get_under c.self.inside.objects q b there in c.slots.ensures q (ap is_some found.1))
