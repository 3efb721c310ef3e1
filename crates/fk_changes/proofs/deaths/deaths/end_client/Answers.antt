use Rattle.std.proofs.Common.{sym, ◌∙◌}
use Rattle.fk_store.specs.Store.Paths.{path, place}
use Rattle.fk_store.specs.Store.World.{world}
use Rattle.fk_changes.proofs.InDeaths.Clients.{client_ends, elsewhere_ends, nobody_ends}
use Rattle.fk_changes.proofs.deaths.deaths.end_client.Goals as goal

pub returns-then-eq-clause-ends : goal.returns-then-eq-clause-ends
returns-then-eq-clause-ends c test w is =
    let second = c.end_each-then-eq.ensures.ends _ w (c.end_each.ensures.ends test w is) in
    client_ends w (world c.args.store.now) test is (place (path c.args.store.now) c.args.port) (place (path c.args.store.now) c.args.who) _ _
    c.in-Some.ensures.talk ((c.requires.apart c.in-Some.talk.port).0 ∙ sym c.eq.ensures ∙ c.if-eq.true)
    (rw (c.end_each.ensures.paths, c.server_of-server.ensures (path c.args.store.now) w) at second)

pub returns-else-eq-clause-ends : goal.returns-else-eq-clause-ends
returns-else-eq-clause-ends c test w is =
    elsewhere_ends w (world c.args.store.now) test is (place (path c.args.store.now) c.args.port) (place (path c.args.store.now) c.args.who) _
    c.in-Some.ensures.talk ((c.requires.apart c.in-Some.talk.port).0 ∙ sym c.eq.ensures ∙ c.if-eq.false)

pub returns-in_default-clause-ends : goal.returns-in_default-clause-ends
returns-in_default-clause-ends c test w is =
    nobody_ends w (world c.args.store.now) test is (place (path c.args.store.now) c.args.port) (place (path c.args.store.now) c.args.who)
    (rw c.in_default.is at c.talk_of.ensures.talk)
