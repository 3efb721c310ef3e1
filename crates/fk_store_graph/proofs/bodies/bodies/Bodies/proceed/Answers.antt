use Rattle.std.proofs.Common.{sym, refl, ◌∙◌}
use Rattle.fk_store_graph.proofs.InBodies.NudgeLaws.{edits-along, goes_is}
use Rattle.fk_store_graph.proofs.InBodies.QuietLaws.{quiet_kept, quiet_going, quiet_map, quiet_there, quiet_nobody}
use Rattle.fk_store_graph.proofs.bodies.bodies.Bodies.proceed.Goals as goal

pub invariant_of-self : goal.invariant_of-self
invariant_of-self c = quiet_kept _ _ c.in-Some.key _ c.proceed.ensures
    (quiet_going c.args.registers.now c.args.counter c.args.mode) _ _ _ c.filed.ensures c.self.invariant

pub returns-in-Some-clause-there : goal.returns-in-Some-clause-there
returns-in-Some-clause-there c b is = rw (← c.self.view_is)
    (quiet_map _ _ c.in-Some.key _ (edits-along _ _ c.in-Some.key _ _ (goes_is c.args.registers.now c.args.counter c.args.mode) c.proceed.ensures)
    c.filed.ensures c.args.who (sym c.in-Some.ensures.key) b (rw (← c.self.view_is) at is))

pub returns-in-Some-clause-none : goal.returns-in-Some-clause-none
returns-in-Some-clause-none c none = absurd (quiet_there c.self.inside.objects _ c.in-Some.key _ c.proceed.ensures c.filed.ensures c.args.who
    (sym c.in-Some.ensures.key)
    (rw (← c.self.view_is) at none))

pub returns-in_default-clause-there : goal.returns-in_default-clause-there
returns-in_default-clause-there c b is = absurd (quiet_nobody c.self.inside.objects c.args.who b c.in_default.ensures.key (rw (← c.self.view_is) at is))
