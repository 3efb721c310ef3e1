use Rattle.fk_calls.proofs.calls.going.meets.Goals as goal

pub may_send-requires-clause-at : goal.may_send-requires-clause-at
may_send-requires-clause-at c = rw c.in-ClientSend.is at c.requires.at

pub may_send-requires-in-ServerSend-clause-at : goal.may_send-requires-in-ServerSend-clause-at
may_send-requires-in-ServerSend-clause-at c = rw c.in-ServerSend.is at c.requires.at

pub may_pass-requires-clause-at : goal.may_pass-requires-clause-at
may_pass-requires-clause-at c = rw c.in-ClientOver.is at c.requires.at

pub may_pass-requires-in-ServerOver-clause-at : goal.may_pass-requires-in-ServerOver-clause-at
may_pass-requires-in-ServerOver-clause-at c = rw c.in-ServerOver.is at c.requires.at
