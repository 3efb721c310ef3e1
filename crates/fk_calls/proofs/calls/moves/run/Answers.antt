use Rattle.std.proofs.Common.{[], None, refl}
use Rattle.fk_store.specs.Store.Paths.{path, place}
use Rattle.fk_store.specs.Store.World.{world}
use Rattle.fk_calls.proofs.InCalls.Judged.{instruction_judged, running_there, user}
use Rattle.fk_calls.proofs.InCalls.Raising.{few_raised, none_of, tells_as}
use Rattle.fk_calls.proofs.InCalls.Running.{off_right, on_both, true_anyway}
use Rattle.fk_calls.proofs.InCalls.Touches.{touching}
use Rattle.fk_calls.specs.Calls.Judgements.{TellsTouched}
use Rattle.fk_calls.specs.Calls.Runs.{has_run, leaves_running}
use Rattle.fk_calls.specs.declared.calls.judging.Judgement.{Judgement}
use Rattle.fk_model.specs.declared.moves.Ask.TheVariants as asks
use Rattle.fk_model.specs.declared.moves.Move.{Move}
use Rattle.fk_plans.specs.declared.plans.plan.Verdict.TheVariants as verdicts
use Rattle.fk_plans.specs.declared.wakes.touching.Touched.TheVariants.{Few}
use Rattle.std.proofs.Common.{false}
use Rattle.fk_calls.proofs.calls.moves.run.Goals as goal

-- ---- an instruction that is made

pub make_instruction-made-requires : goal.make_instruction-made-requires
make_instruction-made-requires c =
    let m = c.args.store.now in
    let judged = instruction_judged c.args.store.now (record { who = c.args.who; pick = None }) _ (c.in-Some.ensures.free (cc)) (c.in-Some.ensures.running (cc))
    (c.instruction.ensures.row []) c.instruction.ensures.fits c.in-Some.thread.now.regs c.instruction.ensures.instruction c.instruction.ensures.sure in
    record {
      valid = c.requires.valid;
      judged = rw c.in-Runs.is at judged;
      at = running_there (world m) (path m) (place (path m) c.args.who) _ _ c.in-Some.ensures.there (c.in-Some.ensures.running (cc));
      effect = rw c.in-Runs.is at c.instruction.ensures.instruction;
    }

pub returns-in-Runs-clause-made : goal.returns-in-Runs-clause-made
returns-in-Runs-clause-made c = rw c.ran_by.ensures.made c.make_instruction-made.ensures.made

pub returns-in-Runs-clause-ended : goal.returns-in-Runs-clause-ended
returns-in-Runs-clause-ended c = rw c.ran_by.ensures.made c.make_instruction-made.ensures.ended

pub returns-in-Runs-clause-touched : goal.returns-in-Runs-clause-touched
returns-in-Runs-clause-touched c =
    let run : Move = record { who = c.args.who; pick = None } in
    let j : Judgement = record { caller = user c.args.who; chooses = false; verdict = verdicts.Runs c.in-Runs.effect } in
    let judged = instruction_judged c.args.store.now run _ (c.in-Some.ensures.free (cc)) (c.in-Some.ensures.running (cc))
    (c.instruction.ensures.row []) c.instruction.ensures.fits c.in-Some.thread.now.regs c.instruction.ensures.instruction c.instruction.ensures.sure in
    let told : TellsTouched c.args.store.now run asks.Run (Few None None None) = touching c.args.store.now run asks.Run j (rw c.in-Runs.is at judged) in
    true_anyway (has_run c.ran_by.result) (rw (c.ran_by.ensures.touched c.args.touched.now) told)

pub returns-in-Runs-clause-few : goal.returns-in-Runs-clause-few
returns-in-Runs-clause-few c = rw (c.ran_by.ensures.touched c.args.touched.now) refl

pub returns-in-Runs-clause-ran : goal.returns-in-Runs-clause-ran
returns-in-Runs-clause-ran c = true_anyway (has_run c.ran_by.result) (c.in-Some.ensures.running (cc))

pub returns-in-Runs-clause-on : goal.returns-in-Runs-clause-on
returns-in-Runs-clause-on c =
    rw c.ran_by.ensures.on (on_both _ c.make_instruction-made.result (leaves_running c.in-Runs.effect) c.make_instruction-made.ensures.on)

pub returns-in-Runs-clause-same : goal.returns-in-Runs-clause-same
returns-in-Runs-clause-same c = rw c.ran_by.ensures.made (off_right _ _ c.make_instruction-made.result c.make_instruction-made.ensures.unready)

-- ---- one that raises a fault

pub raise_judged-requires : goal.raise_judged-requires
raise_judged-requires c =
    let judged = instruction_judged c.args.store.now (record { who = c.args.who; pick = None }) _ (c.in-Some.ensures.free (cc)) (c.in-Some.ensures.running (cc))
    (c.instruction.ensures.row []) c.instruction.ensures.fits c.in-Some.thread.now.regs c.instruction.ensures.instruction c.instruction.ensures.sure in
    record { valid = c.requires.valid; judged = rw c.in-Faults.is at judged }

pub returns-in-Faults-clause-made : goal.returns-in-Faults-clause-made
returns-in-Faults-clause-made c = rw c.raised_by.ensures.made c.raise_judged.ensures.made

pub returns-in-Faults-clause-ended : goal.returns-in-Faults-clause-ended
returns-in-Faults-clause-ended c = rw c.raised_by.ensures.made c.raise_judged.ensures.ended

pub returns-in-Faults-clause-touched : goal.returns-in-Faults-clause-touched
returns-in-Faults-clause-touched c =
    let run : Move = record { who = c.args.who; pick = None } in
    let touched = c.raise_judged.new.touched in
    tells_as (TellsTouched c.args.store.now run asks.Run) c.raise_judged.result (has_run c.raised_by.result) touched _ c.raised_by.ensures.made
    (c.raised_by.ensures.touched touched) c.raise_judged.ensures.touched

pub returns-in-Faults-clause-few : goal.returns-in-Faults-clause-few
returns-in-Faults-clause-few c =
    let touched = c.raise_judged.new.touched in
    few_raised c.raise_judged.result touched _ c.raise_judged.ensures.few (c.raised_by.ensures.touched touched)

pub returns-in-Faults-clause-ran : goal.returns-in-Faults-clause-ran
returns-in-Faults-clause-ran c = true_anyway (has_run c.raised_by.result) (c.in-Some.ensures.running (cc))

pub returns-in-Faults-clause-on : goal.returns-in-Faults-clause-on
returns-in-Faults-clause-on c = none_of _ _ c.raised_by.ensures.on

pub returns-in-Faults-clause-same : goal.returns-in-Faults-clause-same
returns-in-Faults-clause-same c = rw c.raised_by.ensures.made c.raise_judged.ensures.same
