use Rattle.fk_migrate.specs.Pairs.{shown}
use Rattle.fk_migrate.proofs.pair.Pair.sent_near.Goals as goal

pub returns-clause-same : goal.returns-clause-same
returns-clause-same g c = λ i. record (shown c.args.self.now) { slot = c.sent.ensures.slot i; near = c.sent.ensures.same i }
