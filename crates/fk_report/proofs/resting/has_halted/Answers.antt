use Rattle.std.proofs.Common.{sym}
use Rattle.fk_store.specs.Store.Paths.{path}
use Rattle.fk_store.specs.Store.World.{world, place_of}
use Rattle.fk_report.proofs.ThreadScans.{over-thread, over-nobody}
use Rattle.fk_report.proofs.resting.has_halted.Goals as goal

pub returns-in-Some : goal.returns-in-Some
returns-in-Some c =
    let m = c.args.store.now in
    rw c.is_over.ensures (over-thread (world m) (place_of m c.args.who) (path m) c.in-Some.thread.now (sym c.in-Some.ensures.thread))

pub returns-in-None : goal.returns-in-None
returns-in-None c = over-nobody (world c.args.store.now) (place_of c.args.store.now c.args.who) (sym c.in-None.ensures.thread)
