use Rattle.std.proofs.Common.{◌∙◌}
use Rattle.fk_store.specs.Store.Paths.{path, place}
use Rattle.fk_store.specs.Store.World.{world}
use Rattle.fk_changes.proofs.InDeaths.Clients.{ends_client_some, ends_client_none}
use Rattle.fk_changes.proofs.deaths.deaths.server_at.Goals as goal

pub returns-in-Some : goal.returns-in-Some
returns-in-Some c = c.server_of.ensures (path c.args.store.now) (world c.args.store.now)
    ∙ ends_client_some (world c.args.store.now) (place (path c.args.store.now) c.args.who) _ c.in-Some.ensures.talk

pub returns-in-None : goal.returns-in-None
returns-in-None c = ends_client_none (world c.args.store.now) (place (path c.args.store.now) c.args.who) c.in-None.ensures.talk
