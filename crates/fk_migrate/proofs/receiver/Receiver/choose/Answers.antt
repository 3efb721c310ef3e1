use Rattle.fk_migrate.proofs.receiver.Receiver.choose.Goals as goal

pub returns-clause-same : goal.returns-clause-same
returns-clause-same g c = λ i. record { world = c.choose.ensures.world i; servers = c.choose.ensures.services i }
