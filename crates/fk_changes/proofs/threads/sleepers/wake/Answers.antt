use Rattle.fk_model.specs.declared.stage.Stage.TheVariants.{MutexLock}
use Rattle.fk_model.specs.World.Edit.{Replace}
use Rattle.fk_store.specs.Store.Paths.{path, place}
use Rattle.fk_store.specs.Store.World.{world}
use Rattle.fk_changes.proofs.InThreads.SleeperLaws.{wake_there}
use Rattle.fk_changes.proofs.threads.sleepers.wake.Goals as goal

pub returns-in-Some-clause-world : goal.returns-in-Some-clause-world
returns-in-Some-clause-world c =
    c.go_on.ensures.edits (Replace (MutexLock c.args.mutex))
    (wake_there (world c.args.store.now) (place (path c.args.store.now) c.args.who) (path c.args.store.now) c.in-Some.field-0.now
    c.requires.sleeps.0 c.args.mutex _ c.in-Some.ensures.thread c.requires.sleeps.1 (c.awake.ensures.edit (path c.args.store.now) c.requires.sleeps.0))
