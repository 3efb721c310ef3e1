use Rattle.std.proofs.Common.{false, refl}
use Rattle.fk_model.specs.declared.thread.Turn.TheVariants as turns
use Rattle.fk_model.specs.ObjectRows.{ends_on}
use Rattle.fk_store.specs.Store.Paths.{path, place}
use Rattle.fk_store.specs.Store.World.{world}
use Rattle.fk_changes.proofs.InDeaths.Clients.{ends_server}
use Rattle.fk_changes.proofs.InDeaths.Endings.{ends_both}
use Rattle.fk_changes.proofs.deaths.deaths.end_with_thread.Goals as goal

pub returns-clause-ends : goal.returns-clause-ends
returns-clause-ends c =
    let second = c.end_each-2.ensures.ends _ (world c.args.store.now) (c.end_each.ensures.ends (λ q. false) (world c.args.store.now) refl) in
    ends_both (world c.args.store.now) _ (λ q. false) (ends_on (world c.args.store.now) (place (path c.args.store.now) c.args.who) turns.Client)
    (ends_on (world c.args.store.now) (place (path c.args.store.now) c.args.who) turns.Server)
    (rw (c.end_each.ensures.paths, c.server_at-server.ensures, c.client_of-client.ensures.client c.requires.valid.consistent, ends_server _ _) at second)
