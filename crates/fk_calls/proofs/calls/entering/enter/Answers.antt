use Rattle.std.proofs.Common.{[], false, None}
use Rattle.fk_store.specs.Store.Paths.{path, place}
use Rattle.fk_store.specs.Store.World.{world}
use Rattle.fk_calls.proofs.InCalls.Judged.{instruction_judged, running_there, user}
use Rattle.fk_calls.proofs.InCalls.Running.{off_right, true_anyway}
use Rattle.fk_calls.proofs.InCalls.Touches.{touching}
use Rattle.fk_calls.specs.declared.calls.judging.Judgement.{Judgement}
use Rattle.fk_model.specs.declared.moves.Ask.TheVariants as asks
use Rattle.fk_model.specs.declared.moves.Move.{Move}
use Rattle.fk_plans.specs.declared.plans.plan.Effect.TheVariants as effects
use Rattle.fk_plans.specs.declared.plans.plan.Verdict.TheVariants as verdicts
use Rattle.fk_calls.proofs.calls.entering.enter.Goals as goal

pub make_instruction-requires : goal.make_instruction-requires
make_instruction-requires c =
    let m = c.args.store.now in
    let row = rw c.if-not-enters.false at c.enters.ensures.row in
    let fits = rw c.if-not-enters.false at c.enters.ensures.fits in
    let names = rw c.if-not-enters.false at c.enters.ensures.instruction in
    let judged = instruction_judged m (record { who = c.args.who; pick = None }) (verdicts.Runs effects.Enters) (c.in-Some.ensures.free (cc))
    (c.in-Some.ensures.running (cc)) (row []) fits c.in-Some.thread.now.regs names tt in
    record {
      valid = c.requires.valid;
      judged = judged;
      at = running_there (world m) (path m) (place (path m) c.args.who) effects.Enters c.in-Some.thread.now c.in-Some.ensures.there
          (c.in-Some.ensures.running (cc));
      effect = names;
    }

pub returns-clause-touched : goal.returns-clause-touched
returns-clause-touched c =
    let m = c.args.store.now in
    let run : Move = record { who = c.args.who; pick = None } in
    let j : Judgement = record { caller = user c.args.who; chooses = false; verdict = verdicts.Runs effects.Enters } in
    let row = rw c.if-not-enters.false at c.enters.ensures.row in
    let fits = rw c.if-not-enters.false at c.enters.ensures.fits in
    let names = rw c.if-not-enters.false at c.enters.ensures.instruction in
    let judged = instruction_judged m run (verdicts.Runs effects.Enters) (c.in-Some.ensures.free (cc)) (c.in-Some.ensures.running (cc)) (row []) fits
    c.in-Some.thread.now.regs names tt in
    true_anyway c.make_instruction.result (touching m run asks.Run j judged)

pub returns-clause-ran : goal.returns-clause-ran
returns-clause-ran c = true_anyway c.make_instruction.result (c.in-Some.ensures.running (cc))

pub returns-clause-same : goal.returns-clause-same
returns-clause-same c = off_right _ _ c.make_instruction.result c.make_instruction.ensures.unready
