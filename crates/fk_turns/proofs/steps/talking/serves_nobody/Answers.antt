use Rattle.fk_store.specs.Store.World.{world, place_of}
use Rattle.fk_turns.proofs.InSteps.Talked.{serves_none_if}
use Rattle.fk_turns.proofs.steps.talking.serves_nobody.Goals as goal

pub returns : goal.returns
returns c =
    let m = c.args.store.now in
    serves_none_if (world m) c.requires.valid c.names.ensures.few (place_of m c.args.who) c.client_of.result c.is_none.result c.client_of.ensures.some
    c.is_none.ensures
