use Rattle.std.proofs.Common.{Option, is_some, ap, ℕ}
use Rattle.fk_model.specs.declared.names.Who.{Who}
use Rattle.fk_waits.proofs.InQueues.Heads.{queue_named}
use Rattle.fk_waits.proofs.InQueues.Standing.{there_by}
use Rattle.fk_waits.proofs.queues.queues.Queues.rename_queue.Goals as goal

pub show-requires : goal.show-requires
show-requires c = there_by c.args.self.now.lines c.args.head (ap (λ (o : Option (Who × ℕ)). is_some o) c.requires.1)

pub returns-clause-kept : goal.returns-clause-kept
returns-clause-kept c l filed =
    queue_named c.args.self.now c.args.head c.args.name c.show.new.nodes c.requires c.show.ensures.shown c.show.ensures.others c.show.ensures.lists l filed
