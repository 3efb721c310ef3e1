use Rattle.std.proofs.Common.{◌∙◌}
use Rattle.fk_scenario.proofs.fields.entries.Entries.position.Goals as goal

pub returns : goal.returns
returns g c = rw (← c.self.view_is) (c.place_at.ensures ∙ c.self.invariant c.args.key.now)
