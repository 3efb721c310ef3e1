use Rattle.fk_turns.proofs.InSteps.Went.{anyway}
use Rattle.fk_turns.proofs.steps.plain.is_shifted_apart.Goals as goal

pub returns-clause-from : goal.returns-clause-from
returns-clause-from c = let from = rw c.if-not-is_apart_at.false at c.is_apart_at.ensures in anyway c.is_apart_at-2.result from
