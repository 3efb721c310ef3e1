use Rattle.fk_served.specs.Kernels.{world_of as world}
use Rattle.fk_migrate.proofs.sender.Sender.pieces.Goals as goal

pub returns-clause-same : goal.returns-clause-same
returns-clause-same g c = λ i. record { world = world c.args.self.now.host.kernel; servers = c.args.self.now.host.services.list; side = c.pieces.ensures.same i }
