use Rattle.std.proofs.Common.{None, refl, sym, subst}
use Rattle.fk_model.specs.declared.moves.Ask.TheVariants as asks
use Rattle.fk_model.specs.declared.moves.Move.{Move}
use Rattle.fk_model.specs.declared.moves.Said.TheVariants as says
use Rattle.fk_model.specs.Valid.{IsValid}
use Rattle.fk_store.specs.Store.Contents.{Contents}
use Rattle.fk_store.specs.Store.World.{world}
use Rattle.fk_turns.specs.Moved.Kept.{AreKept}
use Rattle.fk_plans.specs.declared.wakes.touching.Touched.TheVariants.{Few}
use Rattle.fk_turns.proofs.InSteps.Stepped.{comes_ran, quiet_ran, run_fit, valid_true}
use Rattle.fk_turns.proofs.InSteps.Went.{running_there}
use Rattle.fk_turns.proofs.steps.entering.enter.Goals as goal

pub after_entry-requires : goal.after_entry-requires
after_entry-requires c =
    let m = c.args.store.now in
    let n = c.enter-entered.new.store in
    let run : Move = record { who = c.args.who; pick = None } in
    let was = c.args.turns.now in
    let made = rw c.if-not-entered.false at c.enter-entered.ensures.made in
    let tells = rw c.if-not-entered.false at c.enter-entered.ensures.touched in
    let ran = rw c.if-not-entered.false at c.enter-entered.ensures.ran in
    record {
      valid = valid_true m n run asks.Run c.requires.valid c.names.ensures.few (run_fit m run) says.Nothing c.enter-entered.result
          c.enter-entered.ensures.made c.enter-entered.ensures.same;
      quiet = λ quiet. quiet_ran m n run c.requires.valid c.names.ensures.few (run_fit m run) c.names.ensures.born c.names-2.ensures.born
          c.names-2.ensures.few (Few None None None) was.waits was.marks says.Nothing c.requires.kept (running_there m c.args.who ran) quiet refl made.0
          made.1 tells;
      comes = comes_ran m n run c.requires.valid c.names.ensures.few (run_fit m run) c.names.ensures.born c.names-2.ensures.born c.names-2.ensures.few
          (Few None None None) was.waits was.marks says.Nothing c.requires.kept refl made.0 made.1 tells;
    }

-- ---- it is entered

pub returns-clause-made : goal.returns-clause-made
returns-clause-made c = rw c.if-not-entered.false at c.enter-entered.ensures.made

pub returns-clause-ended : goal.returns-clause-ended
returns-clause-ended c = rw c.if-not-entered.false at c.enter-entered.ensures.ended

pub returns-clause-ran : goal.returns-clause-ran
returns-clause-ran c = rw c.if-not-entered.false at c.enter-entered.ensures.ran

pub returns-clause-valid : goal.returns-clause-valid
returns-clause-valid c =
    let m = c.args.store.now in
    let run : Move = record { who = c.args.who; pick = None } in
    valid_true m c.enter-entered.new.store run asks.Run c.requires.valid c.names.ensures.few (run_fit m run) says.Nothing c.enter-entered.result
    c.enter-entered.ensures.made c.enter-entered.ensures.same

-- ---- or all is as it was

pub returns-then-not-entered-clause-same : goal.returns-then-not-entered-clause-same
returns-then-not-entered-clause-same c = rw c.if-not-entered.true at c.enter-entered.ensures.same

pub returns-then-not-entered-clause-valid : goal.returns-then-not-entered-clause-valid
returns-then-not-entered-clause-valid c =
    let same = rw c.if-not-entered.true at c.enter-entered.ensures.same in
    subst (λ (d : Contents). IsValid (world d)) (sym same) c.requires.valid

pub returns-then-not-entered-clause-kept : goal.returns-then-not-entered-clause-kept
returns-then-not-entered-clause-kept c =
    let same = rw c.if-not-entered.true at c.enter-entered.ensures.same in
    let was = c.args.turns.now in
    subst (λ (d : Contents). AreKept d was.waits was.marks) (sym same) c.requires.kept
