use Rattle.std.proofs.Common.{sym, ◌∙◌}
use Rattle.fk_turns.proofs.steps.plain.is_unknown.Goals as goal

pub returns : goal.returns
returns c = sym c.knows.ensures ∙ c.if-knows.false
