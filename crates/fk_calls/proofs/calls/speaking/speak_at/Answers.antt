use Rattle.fk_calls.proofs.calls.speaking.speak_at.Goals as goal

pub tell-requires-clause-at : goal.tell-requires-clause-at
tell-requires-clause-at c = rw c.in-ClientSend.is at c.in-Some.ensures.at

pub hand-requires-clause-at : goal.hand-requires-clause-at
hand-requires-clause-at c = rw c.in-ClientOver.is at c.in-Some.ensures.at
