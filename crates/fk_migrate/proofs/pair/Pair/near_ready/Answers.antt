use Rattle.fk_migrate.specs.Pairs.{shown}
use Rattle.fk_migrate.proofs.Stepping.{near_exact}
use Rattle.fk_migrate.proofs.pair.Pair.near_ready.Goals as goal

pub returns : goal.returns
returns g c = λ from its. near_exact (shown c.args.self.now) from its c.args.m.now c.ready.result c.ready.ensures.kept c.ready.ensures.ready
