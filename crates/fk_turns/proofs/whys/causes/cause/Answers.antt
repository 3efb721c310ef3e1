use Rattle.std.proofs.Common.{Option, ap, ◌∙◌}
use Rattle.fk_model.specs.Objects.{and_then, or_else}
use Rattle.fk_model.specs.Places.{Path}
use Rattle.fk_model.specs.Searches.{thread_at}
use Rattle.fk_store.specs.Store.Paths.{path}
use Rattle.fk_store.specs.Store.World.{world, place_of}
use Rattle.fk_turns.specs.Whys.Causes.{or_itself, outermost_held, thread_cause}
use Rattle.fk_turns.proofs.InWhys.Waited.{or_first}
use Rattle.fk_turns.proofs.whys.causes.cause.Goals as goal

pub returns-in-Some : goal.returns-in-Some
returns-in-Some c =
    let m = c.args.store.now in
    let x = place_of m c.args.who in
    or_first x (outermost_held (world m) (path m c.args.who.space)) (and_then (thread_cause (world m) x) (thread_at (world m) x))
    (place_of m c.in-Some.space) c.in-Some.ensures

pub returns-in-None : goal.returns-in-None
returns-in-None c =
    let m = c.args.store.now in
    let x = place_of m c.args.who in
    c.own_cause.ensures ∙ ap (λ (o : Option Path). or_itself x (or_else o (and_then (thread_cause (world m) x) (thread_at (world m) x)))) c.in-None.ensures
