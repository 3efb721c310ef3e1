use Rattle.std.proofs.Common.{ap, ◌∙◌}
use Rattle.fk_model.specs.Objects.{and_then}
use Rattle.fk_store.specs.Store.World.{world, place_of}
use Rattle.fk_turns.specs.Whys.Causes.{thread_cause}
use Rattle.fk_turns.proofs.whys.causes.cause_there.Goals as goal

pub returns-in-Some : goal.returns-in-Some
returns-in-Some c =
    let m = c.args.store.now in
    c.thread_cause.ensures ∙ ap (and_then (thread_cause (world m) (place_of m c.args.who))) c.in-Some.ensures.thread

pub returns-in-None : goal.returns-in-None
returns-in-None c =
    let m = c.args.store.now in ap (and_then (thread_cause (world m) (place_of m c.args.who))) c.in-None.ensures.thread
