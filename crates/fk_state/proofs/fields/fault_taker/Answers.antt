use Rattle.fk_state.proofs.fields.fault_taker.Goals as goal

pub returns-in-Some-clause-named : goal.returns-in-Some-clause-named
returns-in-Some-clause-named c m named = let on = rw c.in-Some.is at named in c.peer_field.ensures.named m on.1
