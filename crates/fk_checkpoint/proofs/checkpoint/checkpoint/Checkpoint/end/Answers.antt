use Rattle.fk_checkpoint.proofs.InCheckpoint.Calls.{at_call}
use Rattle.fk_checkpoint.proofs.checkpoint.checkpoint.Checkpoint.end.Goals as goal

pub returns-in_default : goal.returns-in_default
returns-in_default c = record { some = tt; none = at_call c.args.self.now.slot c.args.self.now.phase c.in_default.not-Over }
