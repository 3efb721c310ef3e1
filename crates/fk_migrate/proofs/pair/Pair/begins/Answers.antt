use Rattle.fk_migrate.specs.Pairs.{shown}
use Rattle.fk_migrate.proofs.Stepping.{begins}
use Rattle.fk_migrate.proofs.pair.Pair.begins.Goals as goal

pub returns : goal.returns
returns g c = begins (shown c.args.self.now) c.requires
