use Rattle.fk_calls.proofs.calls.answering.call_state.Goals as goal

pub answer_judged-requires-clause-row : goal.answer_judged-requires-clause-row
answer_judged-requires-clause-row c = rw c.in-GetState.is (c.get_state.ensures.row.outcome c.args.words.now)

pub answer_judged-requires-clause-fits : goal.answer_judged-requires-clause-fits
answer_judged-requires-clause-fits c = c.get_state.ensures.row.fits

pub answer_judged-requires-in-GetPtr-clause-row : goal.answer_judged-requires-in-GetPtr-clause-row
answer_judged-requires-in-GetPtr-clause-row c = rw c.in-GetPtr.is (c.get_ptr.ensures.row.outcome c.args.words.now)

pub answer_judged-requires-in-GetPtr-clause-fits : goal.answer_judged-requires-in-GetPtr-clause-fits
answer_judged-requires-in-GetPtr-clause-fits c = c.get_ptr.ensures.row.fits
