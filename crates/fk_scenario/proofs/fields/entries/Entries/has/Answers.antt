use Rattle.std.proofs.Common.{is_some, ap, ◌∙◌}
use Rattle.fk_scenario.proofs.InFields.Places.{is_some-position_from}
use Rattle.fk_scenario.proofs.fields.entries.Entries.has.Goals as goal

pub returns : goal.returns
returns g c = c.is_some.ensures ∙ ap is_some c.position.ensures ∙ is_some-position_from _ 0 c.args.self.now
