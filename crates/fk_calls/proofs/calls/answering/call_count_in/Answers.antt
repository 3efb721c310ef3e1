use Rattle.fk_calls.proofs.calls.answering.call_count_in.Goals as goal

pub answer_judged-requires-clause-row : goal.answer_judged-requires-clause-row
answer_judged-requires-clause-row c = rw c.in-CountIn.is (c.count_in.ensures.row.outcome c.args.words.now)

pub answer_judged-requires-clause-fits : goal.answer_judged-requires-clause-fits
answer_judged-requires-clause-fits c = c.count_in.ensures.row.fits
