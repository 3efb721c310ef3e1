use Rattle.fk_store_graph.proofs.InBodies.ScanLaws.{start_first, start_next}
use Rattle.fk_store_graph.proofs.bodies.bodies.start_after.Goals as goal

pub returns-in-None : goal.returns-in-None
returns-in-None c = rw c.in-None.is (λ s k. start_first s k)

pub returns-in-Some : goal.returns-in-Some
returns-in-Some c = rw (c.in-Some.is, c.from.ensures) (λ s k. start_next c.in-Some.who.space c.in-Some.who.slot s k)
