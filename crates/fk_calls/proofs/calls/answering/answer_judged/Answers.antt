use Rattle.std.proofs.Common.{arith}
use Rattle.fk_plans.specs.declared.plans.plan.Verdict.TheVariants as verdicts
use Rattle.fk_calls.proofs.InCalls.Judged.{porter_judged}
use Rattle.fk_calls.proofs.calls.answering.answer_judged.Goals as goal

pub answer_verdict-requires-clause-judged : goal.answer_verdict-requires-clause-judged
answer_verdict-requires-clause-judged c = porter_judged c.args.store.now c.args.m.now c.args.stage.now c.args.words.now c.in-Ok.verdict
    c.requires.free (omega arith)
    (rw c.in-Ok.is at c.requires.row) (rw c.in-Ok.is at c.requires.fits) (rw c.in-Ok.is at c.requires.sure)

pub refuse-requires-clause-judged : goal.refuse-requires-clause-judged
refuse-requires-clause-judged c = porter_judged c.args.store.now c.args.m.now c.args.stage.now c.args.words.now
    (verdicts.Refused c.in-Err.status) c.requires.free (omega arith) (rw c.in-Err.is at c.requires.row) tt (λ none. tt)
