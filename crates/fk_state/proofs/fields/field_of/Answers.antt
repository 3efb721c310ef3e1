use Rattle.fk_state.proofs.fields.field_of.Goals as goal

pub returns-in-Thread-clause-named : goal.returns-in-Thread-clause-named
returns-in-Thread-clause-named c m named = let both = rw c.in-Thread.is at named in c.thread_field.ensures.named m both.0 both.1
