use Rattle.std.proofs.Common.{◌∙◌}
use Rattle.fk_store_graph.proofs.InLinked.HomeLaws.{home-homed}
use Rattle.fk_store_graph.proofs.bodies.bodies.Bodies.home.Goals as goal

pub returns : goal.returns
returns c = rw (← c.self.view_is) (c.home_under.ensures ∙ home-homed c.self.inside.objects c.self.inside.homes.items c.filed.ensures
    c.self.invariant.homed c.args.space)
