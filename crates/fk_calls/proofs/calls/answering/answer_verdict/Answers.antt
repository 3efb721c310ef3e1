use Rattle.fk_calls.proofs.calls.answering.answer_verdict.Goals as goal

pub tell-requires-clause-judged : goal.tell-requires-clause-judged
tell-requires-clause-judged c = rw c.in-Some.ensures at c.requires.judged
