use Rattle.fk_calls.proofs.calls.answering.call_pages.Goals as goal

pub answer_judged-requires-clause-row : goal.answer_judged-requires-clause-row
answer_judged-requires-clause-row c = rw c.in-PageRead.is (c.page_read.ensures.row.outcome c.args.words.now)

pub answer_judged-requires-clause-fits : goal.answer_judged-requires-clause-fits
answer_judged-requires-clause-fits c = c.page_read.ensures.row.fits

pub answer_judged-requires-in-PageNext-clause-row : goal.answer_judged-requires-in-PageNext-clause-row
answer_judged-requires-in-PageNext-clause-row c = rw c.in-PageNext.is (c.page_next.ensures.row.outcome c.args.words.now)

pub answer_judged-requires-in-PageNext-clause-fits : goal.answer_judged-requires-in-PageNext-clause-fits
answer_judged-requires-in-PageNext-clause-fits c = c.page_next.ensures.row.fits
