use Rattle.fk_sides.specs.Nears.{saves_of}
use Rattle.fk_migrate.proofs.sender.Sender.choose.Goals as goal

pub returns-clause-same : goal.returns-clause-same
returns-clause-same g c = λ i. record { world = c.choose.ensures.world i; servers = c.choose.ensures.services i; side = saves_of c.args.self.now.near.saves }
