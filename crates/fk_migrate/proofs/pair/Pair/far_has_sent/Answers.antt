use Rattle.fk_migrate.specs.Pairs.{shown}
use Rattle.fk_migrate.proofs.Leading.{to_near_exact}
use Rattle.fk_migrate.proofs.pair.Pair.far_has_sent.Goals as goal

pub returns : goal.returns
returns g c = λ from its. to_near_exact (shown c.args.self.now) c.args.number c.is_some.result c.packet.result c.is_some.ensures c.packet.ensures from its
