use Rattle.fk_migrate.specs.Pairs.{shown}
use Rattle.fk_migrate.proofs.Leading.{to_far_exact}
use Rattle.fk_migrate.proofs.pair.Pair.near_has_sent.Goals as goal

pub returns-clause-ready : goal.returns-clause-ready
returns-clause-ready g c = λ from its. to_far_exact (shown c.args.self.now) c.args.number c.is_some.result c.in_ok-packet.packet c.is_some.ensures c.in_ok-packet.ensures.packet from its

pub returns-clause-same : goal.returns-clause-same
returns-clause-same g c =
    let self = c.args.self.now in
    λ i. record (shown self) { slot = c.packet.ensures.slot i; near = c.packet.ensures.same i }
