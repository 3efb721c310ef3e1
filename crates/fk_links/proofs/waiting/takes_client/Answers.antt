use Rattle.std.proofs.Common.{refl}
use Rattle.fk_model.specs.World.{apply_all}
use Rattle.fk_store.specs.Store.Paths.{path, place}
use Rattle.fk_store.specs.Store.World.{world}
use Rattle.fk_links.proofs.Taken.{client_apart}
use Rattle.fk_links.proofs.waiting.takes_client.Goals as goal

pub returns-clause-fits : goal.returns-clause-fits
unfolding apply_all
returns-clause-fits c m live mine theirs = (
  (tt, ((theirs.1, live), tt, refl)),
  (λ given. client_apart (world m) (place (path m) c.args.caller.who) (place (path m) c.args.client) _ c.from.result 0 mine theirs.0),
)
