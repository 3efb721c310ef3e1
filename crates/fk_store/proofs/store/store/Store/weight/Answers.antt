use Rattle.std.proofs.Common.{refl, ap, ◌∙◌}
use Rattle.fk_store.specs.Freezing.Held.{one_if}
use Rattle.fk_store.proofs.store.store.Store.weight.Goals as goal

pub returns-in-Some-clause-one : goal.returns-in-Some-clause-one
returns-in-Some-clause-one c = rw c.in-Some.ensures.body (c.one.ensures.one ∙ ap one_if c.counts.ensures)

pub returns-in-None-clause-one : goal.returns-in-None-clause-one
returns-in-None-clause-one c = rw c.in-None.ensures.body refl
