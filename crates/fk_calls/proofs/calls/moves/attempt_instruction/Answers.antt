use Rattle.fk_calls.proofs.InCalls.Touches.{touching}
use Rattle.fk_calls.specs.declared.calls.judging.Judgement.{Judgement}
use Rattle.std.proofs.Common.{None, false, sym, subst}
use Rattle.fk_model.specs.declared.moves.Ask.{Ask}
use Rattle.fk_model.specs.declared.moves.Ask.TheVariants as asks
use Rattle.fk_plans.specs.declared.plans.plan.Verdict.TheVariants as verdicts
use Rattle.fk_plans.specs.declared.wakes.touching.Touched.TheVariants.{Few}
use Rattle.fk_calls.specs.Calls.Judgements.{TellsTouched}
use Rattle.fk_calls.proofs.InCalls.Judged.{user}
use Rattle.fk_calls.proofs.calls.moves.attempt_instruction.Goals as goal

pub returns-then-make_instruction-clause-made : goal.returns-then-make_instruction-clause-made
returns-then-make_instruction-clause-made c = rw c.requires.run (rw c.if-make_instruction.true at c.make_instruction.ensures.made)

pub returns-else-make_instruction-clause-unready : goal.returns-else-make_instruction-clause-unready
returns-else-make_instruction-clause-unready c = rw c.requires.run (rw c.if-make_instruction.false at c.make_instruction.ensures.unready)

pub returns-then-make_instruction-clause-touched : goal.returns-then-make_instruction-clause-touched
returns-then-make_instruction-clause-touched c =
    let m = c.args.store.now in
    let j : Judgement = record { caller = user c.args.m.now.who; chooses = false; verdict = verdicts.Runs c.args.effect } in
    subst (λ (a : Ask). TellsTouched m c.args.m.now a (Few None None None)) (sym c.requires.run) (touching m c.args.m.now asks.Run j c.requires.judged)
