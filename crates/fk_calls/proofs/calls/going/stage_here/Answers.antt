use Rattle.fk_store.specs.Store.Paths.{path, place}
use Rattle.fk_store.specs.Store.World.{world}
use Rattle.fk_calls.proofs.InCalls.Talking.{lone_if, orderly_if}
use Rattle.fk_calls.proofs.calls.going.stage_here.Goals as goal

pub returns-in-Calling-clause-at : goal.returns-in-Calling-clause-at
returns-in-Calling-clause-at c =
    let m = c.args.store.now in
    orderly_if (world m) (place (path m) c.args.who) (path m) c.in_ok-thread.thread.now c.in_ok-thread.ensures.there c.in-Calling.is
    c.stage_named.result c.in_ok-thread.ensures.sized c.stage_named.ensures.first

pub returns-in-Calling-clause-alone : goal.returns-in-Calling-clause-alone
returns-in-Calling-clause-alone c =
    let m = c.args.store.now in
    lone_if (world m) (place (path m) c.args.who) (path m) c.in_ok-thread.thread.now c.in_ok-thread.ensures.there c.in-Calling.is
    c.stage_named.result c.stage_named.ensures.alone
