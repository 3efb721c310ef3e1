use Rattle.std.proofs.Common.{[], false}
use Rattle.fk_plans.specs.declared.plans.plan.Verdict.TheVariants as verdicts
use Rattle.fk_model.specs.declared.moves.Ask.TheVariants as asks
use Rattle.fk_calls.specs.declared.calls.judging.Judgement.{Judgement}
use Rattle.fk_calls.proofs.InCalls.Judged.{user, instruction_judged, ready_judged}
use Rattle.fk_calls.proofs.calls.moves.ready_user.Goals as goal

pub is_effect_ready-requires-clause-free : goal.is_effect_ready-requires-clause-free
is_effect_ready-requires-clause-free c user = c.in-Some.ensures.free (cc)

pub returns-in-Runs : goal.returns-in-Runs
returns-in-Runs c =
    let j : Judgement = record { caller = user c.args.m.now.who; chooses = false; verdict = verdicts.Runs c.in-Runs.effect } in
    let judged = instruction_judged c.args.store.now c.args.m.now _ (c.in-Some.ensures.free (cc)) (c.in-Some.ensures.running (cc))
    (c.instruction.ensures.row []) c.instruction.ensures.fits c.in-Some.thread.now.regs c.instruction.ensures.instruction c.instruction.ensures.sure in
    ready_judged c.args.store.now c.args.m.now asks.Run j _ (rw c.in-Runs.is at judged) (c.is_effect_ready.ensures [])
