use Rattle.fk_migrate.specs.Pairs.{shown}
use Rattle.fk_migrate.proofs.pair.Pair.pieces.Goals as goal

pub returns-clause-same : goal.returns-clause-same
returns-clause-same g c = λ i. record (shown c.args.self.now) { slot = c.pieces.ensures.slot i; near = c.pieces.ensures.same i }
