use Rattle.fk_migrate.specs.Pairs.{shown}
use Rattle.fk_migrate.proofs.Fated.{kept_so, not_kept}
use Rattle.fk_migrate.proofs.pair.Pair.fate.Goals as goal

pub moved-requires : goal.moved-requires
moved-requires g c = not_kept (shown c.args.self.now) c.kept.result c.in-None.is c.kept.ensures

pub returns-in-Some : goal.returns-in-Some
returns-in-Some g c = λ from its. kept_so (shown c.args.self.now) from its c.in-Some.why c.kept.result c.in-Some.is c.kept.ensures

pub returns-in-None : goal.returns-in-None
returns-in-None g c = c.moved.ensures
