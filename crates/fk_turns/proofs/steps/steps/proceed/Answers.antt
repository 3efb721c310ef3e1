use Rattle.std.proofs.Common.{◌≡◌, None, true, refl, sym, subst}
use Rattle.std.specs.Bool.{OnTrue, OnFalse}
use Rattle.fk_model.specs.declared.moves.Ask.TheVariants as asks
use Rattle.fk_model.specs.declared.moves.Move.{Move}
use Rattle.fk_model.specs.declared.moves.Said.TheVariants as says
use Rattle.fk_model.specs.Valid.{IsValid}
use Rattle.fk_store.specs.Store.Contents.{Contents}
use Rattle.fk_store.specs.Store.World.{world, place_of}
use Rattle.fk_turns.specs.Next.Judgements.{IsEnded, IsReadyMove, IsStepTo}
use Rattle.fk_turns.specs.Next.Runs.{has_run}
use Rattle.fk_turns.specs.Next.Waiting.{standing, IsMoveReady}
use Rattle.fk_turns.specs.Moved.Kept.{AreKept}
use Rattle.fk_plans.specs.declared.wakes.touching.Touched.TheVariants.{Few}
use Rattle.fk_turns.specs.Steps.Steps.{IsPut}
use Rattle.fk_turns.specs.Steps.Classes.{is_made}
use Rattle.fk_turns.proofs.InSteps.Stepped.{comes_ran, put_true, quiet_ran, run_fit, valid_true}
use Rattle.fk_turns.proofs.InSteps.Went.{running_there, under_way_quiet}
use Rattle.fk_turns.proofs.steps.steps.proceed.Goals as goal

pub after_on-requires : goal.after_on-requires
after_on-requires c =
    let m = c.args.store.now in
    let n = c.run-ran.new.store in
    let run : Move = record { who = c.args.who; pick = None } in
    let was = c.args.turns.now in
    let made = rw c.in-On.is at c.run-ran.ensures.made in
    let tells = rw c.in-On.is at c.run-ran.ensures.touched in
    let ran = rw c.in-On.is at c.run-ran.ensures.ran in
    let on = rw c.in-On.is at c.run-ran.ensures.on in
    record {
      valid = valid_true m n run asks.Run c.requires.valid c.names.ensures.few (run_fit m run) says.Nothing (has_run c.run-ran.result) c.run-ran.ensures.made
          c.run-ran.ensures.same;
      quiet = quiet_ran m n run c.requires.valid c.names.ensures.few (run_fit m run) c.names.ensures.born c.names-2.ensures.born c.names-2.ensures.few
          (Few None None None) was.waits was.marks says.Nothing c.requires.kept (running_there m c.args.who ran)
          (under_way_quiet n c.args.who on) refl made.0 made.1 tells;
      comes = comes_ran m n run c.requires.valid c.names.ensures.few (run_fit m run) c.names.ensures.born c.names-2.ensures.born c.names-2.ensures.few
          (Few None None None) was.waits was.marks says.Nothing c.requires.kept refl made.0 made.1 tells;
      on = on;
    }

pub after_off-requires : goal.after_off-requires
after_off-requires c =
    let m = c.args.store.now in
    let n = c.run-ran.new.store in
    let run : Move = record { who = c.args.who; pick = None } in
    let was = c.args.turns.now in
    let made = rw c.in-Off.is at c.run-ran.ensures.made in
    let tells = rw c.in-Off.is at c.run-ran.ensures.touched in
    record {
      valid = valid_true m n run asks.Run c.requires.valid c.names.ensures.few (run_fit m run) says.Nothing (has_run c.run-ran.result) c.run-ran.ensures.made
          c.run-ran.ensures.same;
      comes = comes_ran m n run c.requires.valid c.names.ensures.few (run_fit m run) c.names.ensures.born c.names-2.ensures.born c.names-2.ensures.few
          (Few None None None) was.waits was.marks says.Nothing c.requires.kept refl made.0 made.1 tells;
    }

pub go_stage-requires : goal.go_stage-requires
go_stage-requires c =
    let same = rw c.in-Not.is at c.run-ran.ensures.same in
    let was = c.args.turns.now in
    record {
      valid = subst (λ (d : Contents). IsValid (world d)) (sym same) c.requires.valid;
      kept = subst (λ (d : Contents). AreKept d was.waits was.marks) (sym same) c.requires.kept;
    }

-- ---- an instruction after which it runs on

pub returns-in-On-clause-made : goal.returns-in-On-clause-made
returns-in-On-clause-made c = rw c.in-On.is at c.run-ran.ensures.made

pub returns-in-On-clause-ended : goal.returns-in-On-clause-ended
returns-in-On-clause-ended c = rw c.in-On.is at c.run-ran.ensures.ended

pub returns-in-On-clause-valid : goal.returns-in-On-clause-valid
returns-in-On-clause-valid c =
    let m = c.args.store.now in
    let run : Move = record { who = c.args.who; pick = None } in
    valid_true m c.run-ran.new.store run asks.Run c.requires.valid c.names.ensures.few (run_fit m run) says.Nothing (has_run c.run-ran.result)
    c.run-ran.ensures.made c.run-ran.ensures.same

pub returns-in-On-clause-placed : goal.returns-in-On-clause-placed
returns-in-On-clause-placed c =
    let m = c.args.store.now in
    let run : Move = record { who = c.args.who; pick = None } in
    let made = rw c.in-On.is at c.run-ran.ensures.made in
    let tells = rw c.in-On.is at c.run-ran.ensures.touched in
    put_true m c.run-ran.new.store run asks.Run c.requires.valid c.names.ensures.few (run_fit m run) c.names.ensures.born c.names-2.ensures.born
    c.names-2.ensures.few (Few None None None) c.after_on.new.turns.waits says.Nothing true made tells c.after_on.ensures.placed

-- ---- any other instruction

pub returns-in-Off-clause-made : goal.returns-in-Off-clause-made
returns-in-Off-clause-made c = rw c.in-Off.is at c.run-ran.ensures.made

pub returns-in-Off-clause-ended : goal.returns-in-Off-clause-ended
returns-in-Off-clause-ended c = rw c.in-Off.is at c.run-ran.ensures.ended

pub returns-in-Off-clause-valid : goal.returns-in-Off-clause-valid
returns-in-Off-clause-valid c =
    let m = c.args.store.now in
    let run : Move = record { who = c.args.who; pick = None } in
    valid_true m c.run-ran.new.store run asks.Run c.requires.valid c.names.ensures.few (run_fit m run) says.Nothing (has_run c.run-ran.result)
    c.run-ran.ensures.made c.run-ran.ensures.same

pub returns-in-Off-clause-placed : goal.returns-in-Off-clause-placed
returns-in-Off-clause-placed c =
    let m = c.args.store.now in
    let run : Move = record { who = c.args.who; pick = None } in
    let made = rw c.in-Off.is at c.run-ran.ensures.made in
    let tells = rw c.in-Off.is at c.run-ran.ensures.touched in
    put_true m c.run-ran.new.store run asks.Run c.requires.valid c.names.ensures.few (run_fit m run) c.names.ensures.born c.names-2.ensures.born
    c.names-2.ensures.few (Few None None None) c.after_off.new.turns.waits says.Nothing true made tells c.after_off.ensures.placed

-- ---- a fault that it raises

pub after-requires : goal.after-requires
after-requires c =
    let m = c.args.store.now in
    let n = c.run-ran.new.store in
    let run : Move = record { who = c.args.who; pick = None } in
    let was = c.args.turns.now in
    let made = rw c.in-Raised.is at c.run-ran.ensures.made in
    let tells = rw c.in-Raised.is at c.run-ran.ensures.touched in
    let few = rw c.in-Raised.is at c.run-ran.ensures.few in
    record {
      valid = valid_true m n run asks.Run c.requires.valid c.names.ensures.few (run_fit m run) says.Nothing (has_run c.run-ran.result) c.run-ran.ensures.made
          c.run-ran.ensures.same;
      comes = comes_ran m n run c.requires.valid c.names.ensures.few (run_fit m run) c.names.ensures.born c.names-2.ensures.born c.names-2.ensures.few
          c.run-ran.new.touched was.waits was.marks says.Nothing c.requires.kept few made.0 made.1 tells;
    }

pub returns-in-Raised-clause-made : goal.returns-in-Raised-clause-made
returns-in-Raised-clause-made c = rw c.in-Raised.is at c.run-ran.ensures.made

pub returns-in-Raised-clause-ended : goal.returns-in-Raised-clause-ended
returns-in-Raised-clause-ended c = rw c.in-Raised.is at c.run-ran.ensures.ended

pub returns-in-Raised-clause-valid : goal.returns-in-Raised-clause-valid
returns-in-Raised-clause-valid c =
    let m = c.args.store.now in
    let run : Move = record { who = c.args.who; pick = None } in
    valid_true m c.run-ran.new.store run asks.Run c.requires.valid c.names.ensures.few (run_fit m run) says.Nothing (has_run c.run-ran.result)
    c.run-ran.ensures.made c.run-ran.ensures.same

pub returns-in-Raised-clause-placed : goal.returns-in-Raised-clause-placed
returns-in-Raised-clause-placed c =
    let m = c.args.store.now in
    let run : Move = record { who = c.args.who; pick = None } in
    let made = rw c.in-Raised.is at c.run-ran.ensures.made in
    let tells = rw c.in-Raised.is at c.run-ran.ensures.touched in
    put_true m c.run-ran.new.store run asks.Run c.requires.valid c.names.ensures.few (run_fit m run) c.names.ensures.born c.names-2.ensures.born
    c.names-2.ensures.few c.run-ran.new.touched c.after.new.turns.waits says.Nothing true made tells c.after.ensures.placed

-- ---- a stage, before which all is as it was

pub returns-in-Not-clause-made : goal.returns-in-Not-clause-made
returns-in-Not-clause-made c =
    let run : Move = record { who = c.args.who; pick = None } in
    let same = rw c.in-Not.is at c.run-ran.ensures.same in
    let v = c.go_stage.new.store in
    subst (λ (d : Contents). OnTrue (is_made c.go_stage.result) (IsReadyMove d run asks.Run × IsStepTo d run asks.Run v says.Nothing)) same
    c.go_stage.ensures.made

pub returns-in-Not-clause-ended : goal.returns-in-Not-clause-ended
returns-in-Not-clause-ended c =
    let same = rw c.in-Not.is at c.run-ran.ensures.same in
    subst (λ (d : Contents). OnTrue (is_made c.go_stage.result) (IsEnded d c.go_stage.new.store None)) same c.go_stage.ensures.ended

pub returns-in-Not-clause-same : goal.returns-in-Not-clause-same
returns-in-Not-clause-same c =
    let same = rw c.in-Not.is at c.run-ran.ensures.same in
    subst (λ (d : Contents). OnFalse (is_made c.go_stage.result) (c.go_stage.new.store ≡ d)) same c.go_stage.ensures.same

pub returns-in-Not-clause-placed : goal.returns-in-Not-clause-placed
returns-in-Not-clause-placed c =
    let run : Move = record { who = c.args.who; pick = None } in
    let same = rw c.in-Not.is at c.run-ran.ensures.same in
    let v = c.go_stage.new.store in
    let s = standing c.go_stage.new.turns.waits in
    subst (λ (d : Contents). OnTrue (is_made c.go_stage.result) (IsPut d run asks.Run v s)) same c.go_stage.ensures.placed

pub returns-in-Not-clause-waits : goal.returns-in-Not-clause-waits
returns-in-Not-clause-waits c waits up =
    let same = rw c.in-Not.is at c.run-ran.ensures.same in
    c.go_stage.ensures.waits waits (subst (λ (d : Contents). IsMoveReady (world d) (place_of d c.args.who)) (sym same) up)
