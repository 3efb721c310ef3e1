use Rattle.std.proofs.Common.{arith}
use Rattle.std.proofs.lemmas.Bool.Decides.{nat_tests}
use Rattle.fk_store_graph.proofs.InLinked.HeldLaws.{none-held, none-counted}
use Rattle.fk_store_graph.proofs.bodies.bodies.Bodies.is_any_held.Goals as goal

pub returns : goal.returns
returns c none = rw (← c.self.view_is) (none-held _ (none-counted _ _ c.self.invariant.held (grind (arith, nat_tests))))
