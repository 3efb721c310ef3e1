use Rattle.std.proofs.Common.{refl}
use Rattle.fk_store_graph.proofs.bodies.leaders.Leaders.are_all.Goals as goal

pub returns : goal.returns
returns c = rw (← c.self.view_is) refl
