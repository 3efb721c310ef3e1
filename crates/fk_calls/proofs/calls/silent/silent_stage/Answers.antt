use Rattle.fk_store.specs.Store.Paths.{path, place}
use Rattle.fk_store.specs.Store.World.{world}
use Rattle.fk_calls.proofs.calls.silent.silent_stage.Goals as goal

pub returns-in-Stage-clause-at : goal.returns-in-Stage-clause-at
returns-in-Stage-clause-at c =
    let m = c.args.store.now in
    c.in-Stage.ensures (world m) (place (path m) c.args.who) (path m) c.in_ok-thread.ensures.there
