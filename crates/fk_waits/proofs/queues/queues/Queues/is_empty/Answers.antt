use Rattle.std.proofs.Common.{◌≡◌, Some, None, sym, ◌∙◌}
use Rattle.fk_model.specs.declared.names.Who.{Who}
use Rattle.fk_waits.proofs.queues.queues.Queues.is_empty.Goals as goal

some_none : {X : Type 0} {x : Who} → Some x ≡ None → X
some_none is = absurd (cc)

pub returns-in-Some-clause-some : goal.returns-in-Some-clause-some
returns-in-Some-clause-some c l filed none = some_none (c.in-Some.ensures l filed ∙ none)

pub returns-in-None-clause-none : goal.returns-in-None-clause-none
returns-in-None-clause-none c l filed = sym (c.in-None.ensures l filed)
