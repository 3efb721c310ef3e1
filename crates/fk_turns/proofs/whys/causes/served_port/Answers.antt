use Rattle.std.proofs.Common.{ap, ◌∙◌}
use Rattle.fk_model.specs.Objects.{and_then}
use Rattle.fk_model.specs.Places.{Path}
use Rattle.fk_model.specs.Searches.{talk_at}
use Rattle.fk_store.specs.Store.World.{world}
use Rattle.fk_turns.specs.Whys.Causes.{port_of}
use Rattle.fk_turns.proofs.whys.causes.served_port.Goals as goal

pub returns-in-Some : goal.returns-in-Some
returns-in-Some c =
    let m = c.args.store.now in
    c.talk_port.ensures ∙ ap (and_then (λ (client : Path). port_of (talk_at (world m) client))) (c.in-Some.ensures.client c.requires.consistent)

pub returns-in-None : goal.returns-in-None
returns-in-None c =
    let m = c.args.store.now in ap (and_then (λ (client : Path). port_of (talk_at (world m) client))) (c.in-None.ensures.client c.requires.consistent)
