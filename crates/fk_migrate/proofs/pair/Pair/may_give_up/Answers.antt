use Rattle.fk_migrate.specs.Pairs.{shown}
use Rattle.fk_migrate.proofs.Leading.{give_up_exact}
use Rattle.fk_migrate.proofs.pair.Pair.may_give_up.Goals as goal

pub returns : goal.returns
returns g c = λ from its. give_up_exact (shown c.args.self.now) c.waits.result c.waits.ensures from its
