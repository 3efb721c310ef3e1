use Rattle.std.proofs.lemmas.Bool.{OnTrue_at}
use Rattle.fk_model.specs.declared.stage.Stage.TheVariants.{CondAsleep}
use Rattle.fk_store.specs.Store.Bodies.{thread_by}
use Rattle.fk_store.specs.Store.Paths.{path, place}
use Rattle.fk_store.specs.Store.World.{world}
use Rattle.fk_turns.proofs.InWhys.Locked.{sleep_cause}
use Rattle.fk_turns.proofs.InWhys.Reasons.{at_stage, sleeps}
use Rattle.fk_turns.proofs.whys.whys.asleep_named.Goals as goal

pub returns-in-Some-clause-why : goal.returns-in-Some-clause-why
returns-in-Some-clause-why c =
    let m = c.args.store.now in
    let x = place (path m) c.args.who in
    let t = thread_by (path m) c.args.thread.now in
    sleeps (world m) x c.args.cond c.args.mutex (at_stage (world m) x t (CondAsleep c.args.cond c.args.mutex) c.requires.there c.requires.stage)
    c.in-Some.ensures.there (OnTrue_at c.if-not-is_mutex.false c.is_mutex.ensures)

pub returns-in-Some-clause-cause : goal.returns-in-Some-clause-cause
returns-in-Some-clause-cause c =
    let m = c.args.store.now in
    sleep_cause (world m) (place (path m) c.args.who) (thread_by (path m) c.args.thread.now) c.args.cond c.args.mutex c.in-Some.slot c.requires.unheld
    c.requires.there c.requires.awake c.requires.stage c.in-Some.ensures.slot c.in-Some.ensures.there
