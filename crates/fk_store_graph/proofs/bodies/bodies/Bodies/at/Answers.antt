use Rattle.std.proofs.Common.{sym, ◌∙◌}
use Rattle.fk_store_graph.proofs.InLinked.BodyLaws.{at_bodies}
use Rattle.fk_store_graph.proofs.bodies.bodies.Bodies.at.Goals as goal

pub returns : goal.returns
returns c = rw (← c.self.view_is) (c.at.ensures ∙ at_bodies _ c.args.who)
