use Rattle.std.proofs.Common.{inl, inr, refl}
use Rattle.fk_turns.proofs.InSteps.Went.{on_going}
use Rattle.fk_turns.proofs.steps.plain.is_calm.Goals as goal

pub returns-then-is_none_queued : goal.returns-then-is_none_queued
returns-then-is_none_queued c = let none = rw c.if-is_none_queued.true at c.is_none_queued.ensures in inl none

pub returns : goal.returns
returns c = on_going c.is_hushed.result c.is_hushed.result refl (λ so. inr (rw so at c.is_hushed.ensures))
