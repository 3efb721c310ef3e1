use Rattle.fk_checkpoint.proofs.InSeeking.Ways.{begins_next}
use Rattle.fk_checkpoint.proofs.seeking.seek.Seek.pass.Goals as goal

pub returns-then-self-mets : goal.returns-then-self-mets
returns-then-self-mets c = λ slot. begins_next slot c.args.mets.now c.args.self.now.at c.if-self-mets.true
