use Rattle.std.proofs.Common.{Option, is_some, ap, ℕ}
use Rattle.fk_model.specs.declared.names.Who.{Who}
use Rattle.fk_waits.proofs.InQueues.Heads.{queue_closed}
use Rattle.fk_waits.proofs.InQueues.Standing.{there_by}
use Rattle.fk_waits.proofs.queues.queues.Queues.close.Goals as goal

pub remove-requires : goal.remove-requires
remove-requires c = there_by c.args.self.now.lines c.args.head (ap (λ (o : Option (Who × ℕ)). is_some o) c.requires.1)

pub returns-clause-kept : goal.returns-clause-kept
returns-clause-kept c l filed empty =
    queue_closed c.args.self.now c.args.head c.remove.new.nodes c.requires c.remove.ensures.gone c.remove.ensures.others c.remove.ensures.lists l filed empty
