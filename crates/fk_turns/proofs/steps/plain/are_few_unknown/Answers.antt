use Rattle.fk_turns.proofs.InSteps.Went.{anyway}
use Rattle.fk_turns.proofs.steps.plain.are_few_unknown.Goals as goal

pub returns-clause-first : goal.returns-clause-first
returns-clause-first c = let first = rw c.if-not-is_one_unknown.false at c.is_one_unknown.ensures in anyway c.is_one_unknown-3.result first

pub returns-clause-second : goal.returns-clause-second
returns-clause-second c = let second = rw c.if-not-is_one_unknown-2.false at c.is_one_unknown-2.ensures in anyway c.is_one_unknown-3.result second
