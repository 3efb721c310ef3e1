use Rattle.fk_model.specs.declared.stage.Stage.TheVariants.{MutexLock}
use Rattle.fk_store.specs.Store.Bodies.{thread_by}
use Rattle.fk_store.specs.Store.Paths.{path, place}
use Rattle.fk_store.specs.Store.World.{world}
use Rattle.fk_turns.proofs.InWhys.Locked.{lock_cause}
use Rattle.fk_turns.proofs.InWhys.Reasons.{at_stage, locks}
use Rattle.fk_turns.proofs.whys.whys.locked_named.Goals as goal

pub returns-in-Some-clause-why : goal.returns-in-Some-clause-why
returns-in-Some-clause-why c =
    let m = c.args.store.now in
    let x = place (path m) c.args.who in
    let t = thread_by (path m) c.args.thread.now in
    locks (world m) x c.args.mutex c.in-Some.slot (at_stage (world m) x t (MutexLock c.args.mutex) c.requires.there c.requires.stage) c.in-Some.ensures

pub returns-in-Some-clause-cause : goal.returns-in-Some-clause-cause
returns-in-Some-clause-cause c =
    let m = c.args.store.now in
    lock_cause (world m) (place (path m) c.args.who) (thread_by (path m) c.args.thread.now) c.args.mutex c.in-Some.slot c.requires.unheld c.requires.there
    c.requires.awake c.requires.stage c.in-Some.ensures
