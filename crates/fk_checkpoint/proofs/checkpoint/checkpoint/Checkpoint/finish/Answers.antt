use Rattle.fk_checkpoint.proofs.InCheckpoint.Calls.{at_call}
use Rattle.fk_checkpoint.proofs.checkpoint.checkpoint.Checkpoint.finish.Goals as goal

pub returns : goal.returns
returns c = record { some = tt; none = at_call c.args.self.slot c.args.self.phase c.in_default.not-Over }
