use Rattle.fk_model.specs.World.Edit.{Shift}
use Rattle.fk_model.specs.declared.thread.Mode.TheVariants as modes
use Rattle.fk_store.specs.Store.Paths.{path, place}
use Rattle.fk_store.specs.Store.World.{world}
use Rattle.fk_store.proofs.InStore.changing.GoneOn.{went_on, stayed}
use Rattle.fk_changes.proofs.InThreads.ShiftLaws.{low_there, shift_other}
use Rattle.fk_changes.proofs.threads.shifts.advance.Goals as goal

pub shifted-registers-requires-clause-low : goal.shifted-registers-requires-clause-low
shifted-registers-requires-clause-low c = low_there (world c.args.store.now)
    (place (path c.args.store.now) c.args.who) (path c.args.store.now) c.in-Some.thread.now c.args.count c.in-Some.ensures.thread c.requires.low

pub returns-in-Calling-clause-world : goal.returns-in-Calling-clause-world
returns-in-Calling-clause-world c = went_on (world c.proceed.new.self) (world c.args.store.now)
    (place (path c.args.store.now) c.args.who) (path c.args.store.now) c.in-Some.thread.now _ _ modes.Calling (Shift c.args.count)
    c.in-Some.ensures.thread c.proceed.ensures.world (c.shifted-registers.ensures.edit (path c.args.store.now))

pub returns-in_default-mode-clause-world : goal.returns-in_default-mode-clause-world
returns-in_default-mode-clause-world c = stayed (world c.args.store.now)
    (place (path c.args.store.now) c.args.who) (path c.args.store.now) c.in-Some.thread.now (Shift c.args.count)
    c.in-Some.ensures.thread (shift_other (path c.args.store.now) c.in-Some.thread.now c.args.count c.in_default-mode.not-Calling)
