use Rattle.std.proofs.Common.{ap}
use Rattle.fk_store.specs.Store.World.{place_of}
use Rattle.fk_turns.specs.Whys.Causes.{or_itself}
use Rattle.fk_turns.proofs.whys.causes.own_cause.Goals as goal

pub returns-in-Some : goal.returns-in-Some
returns-in-Some c = ap (or_itself (place_of c.args.store.now c.args.who)) c.in-Some.ensures

pub returns-in-None : goal.returns-in-None
returns-in-None c = ap (or_itself (place_of c.args.store.now c.args.who)) c.in-None.ensures
