use Rattle.fk_model.specs.World.Edit.{Finish}
use Rattle.fk_model.specs.declared.thread.Mode.TheVariants as modes
use Rattle.fk_store.specs.Store.Paths.{path, place}
use Rattle.fk_store.specs.Store.World.{world}
use Rattle.fk_changes.specs.Threads.Answers.{listed}
use Rattle.fk_changes.proofs.InThreads.FinishLaws.{apart_there, finish_not}
use Rattle.fk_store.proofs.InStore.changing.GoneOn.{went_on, stayed}
use Rattle.fk_changes.proofs.threads.answers.finish.Goals as goal

pub returns-in_default-mode-clause-world : goal.returns-in_default-mode-clause-world
returns-in_default-mode-clause-world c = stayed (world c.args.store.now)
    (place (path c.args.store.now) c.args.who) (path c.args.store.now) c.in-Some.thread.now (Finish (listed c.args.answers))
    c.in-Some.ensures.thread (finish_not (path c.args.store.now) c.in-Some.thread.now (listed c.args.answers) c.in_default-mode.not-Calling)

pub at_next-registers-requires-clause-apart : goal.at_next-registers-requires-clause-apart
at_next-registers-requires-clause-apart c = apart_there (world c.args.store.now)
    (place (path c.args.store.now) c.args.who) (path c.args.store.now) c.in-Some.thread.now c.args.answers c.in-Some.ensures.thread c.requires.apart

pub returns-in-Some-code_after-clause-world : goal.returns-in-Some-code_after-clause-world
returns-in-Some-code_after-clause-world c = went_on (world c.proceed.new.self) (world c.args.store.now)
    (place (path c.args.store.now) c.args.who) (path c.args.store.now) c.in-Some.thread.now _ _ modes.Calling (Finish (listed c.args.answers))
    c.in-Some.ensures.thread c.proceed.ensures.world (c.at_next-registers.ensures.edit (path c.args.store.now))

pub returns-in-None-clause-world : goal.returns-in-None-clause-world
returns-in-None-clause-world c = went_on (world c.proceed-in-None.new.self) (world c.args.store.now)
    (place (path c.args.store.now) c.args.who) (path c.args.store.now) c.in-Some.thread.now _ _ modes.Running (Finish (listed c.args.answers))
    c.in-Some.ensures.thread c.proceed-in-None.ensures.world (c.ended_well-registers.ensures (path c.args.store.now))
