use Rattle.std.proofs.Common.{ap}
use Rattle.fk_waits.specs.Queues.Nodes.{next_in, prev_in}
use Rattle.fk_waits.proofs.InQueues.Nodes.{listed_besides}
use Rattle.fk_waits.proofs.queues.lists.remove.Goals as goal

pub returns-clause-lists : goal.returns-clause-lists
returns-clause-lists c h l is off =
    listed_besides c.args.nodes.now c.try_remove.new.self c.args.node h l
    (λ m apart. ap (next_in m) (c.try_remove.ensures.updates.others m apart)) (λ m apart. ap (prev_in m) (c.try_remove.ensures.updates.others m apart)) is off
