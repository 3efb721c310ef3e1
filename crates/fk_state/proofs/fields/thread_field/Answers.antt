use Rattle.fk_state.proofs.fields.thread_field.Goals as goal

pub returns-in-0-clause-named : goal.returns-in-0-clause-named
returns-in-0-clause-named c m talk fault = c.talk_field.ensures.named m talk

pub returns-in-1-clause-named : goal.returns-in-1-clause-named
returns-in-1-clause-named c m talk fault = c.talk_peer.ensures.named m talk

pub returns-in-2-clause-named : goal.returns-in-2-clause-named
returns-in-2-clause-named c m talk fault = c.fault_field.ensures.named m fault

pub returns-in-3-clause-named : goal.returns-in-3-clause-named
returns-in-3-clause-named c m talk fault = c.fault_taker.ensures.named m fault
