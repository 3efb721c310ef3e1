use Rattle.fk_migrate.specs.Pairs.{shown}
use Rattle.fk_migrate.proofs.pair.Pair.choose_near.Goals as goal

pub returns-clause-same : goal.returns-clause-same
returns-clause-same g c = λ i. record (shown c.args.self.now) { slot = (c.choose.ensures.near i).slot; near = c.choose.ensures.same i }
