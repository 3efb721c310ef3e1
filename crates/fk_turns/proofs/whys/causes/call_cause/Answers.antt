use Rattle.std.proofs.Common.{ap, ◌∙◌}
use Rattle.fk_model.specs.Objects.{and_then}
use Rattle.fk_store.specs.Store.Bodies.{thread_by}
use Rattle.fk_store.specs.Store.Paths.{path}
use Rattle.fk_store.specs.Store.World.{world, place_of}
use Rattle.fk_turns.specs.Whys.Causes.{stage_cause}
use Rattle.fk_turns.proofs.whys.causes.call_cause.Goals as goal

pub returns-in-Some : goal.returns-in-Some
returns-in-Some c =
    let m = c.args.store.now in
    c.stage_cause.ensures
    ∙ ap (and_then (stage_cause (world m) (place_of m c.args.who) (thread_by (path m) c.args.thread.now))) (c.in-Some.ensures (path m))

pub returns-in-None : goal.returns-in-None
returns-in-None c =
    let m = c.args.store.now in
    ap (and_then (stage_cause (world m) (place_of m c.args.who) (thread_by (path m) c.args.thread.now))) (c.in-None.ensures (path m))
