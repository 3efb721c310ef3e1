use Rattle.std.proofs.Common.{ap}
use Rattle.fk_waits.specs.Queues.Nodes.{next_in, prev_in}
use Rattle.fk_waits.proofs.InQueues.Nodes.{left, left_elsewhere}
use Rattle.fk_waits.proofs.queues.lists.leave.Goals as goal

pub returns-clause-leaves : goal.returns-clause-leaves
returns-clause-leaves c h l k is =
    left c.args.nodes.now c.link.new.nodes c.args.node c.index.result.now.prev c.index.result.now.next h l k
    (ap (prev_in c.args.node) c.index.ensures) (ap (next_in c.args.node) c.index.ensures)
    (record { next = c.link.ensures.next; prev = c.link.ensures.prev }) is

pub returns-clause-others : goal.returns-clause-others
returns-clause-others c g h k m l mine is apart =
    left_elsewhere c.args.nodes.now c.link.new.nodes c.args.node c.index.result.now.prev c.index.result.now.next g h k m l
    (ap (prev_in c.args.node) c.index.ensures) (ap (next_in c.args.node) c.index.ensures)
    (record { next = c.link.ensures.next; prev = c.link.ensures.prev }) mine is apart
