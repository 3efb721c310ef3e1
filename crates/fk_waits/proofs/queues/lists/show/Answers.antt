use Rattle.std.proofs.Common.{refl, sym}
use Rattle.slab.specs.Slab.{with_value}
use Rattle.fk_waits.proofs.InQueues.Nodes.{listed_shown}
use Rattle.fk_waits.proofs.queues.lists.show.Goals as goal

pub returns-clause-lists : goal.returns-clause-lists
returns-clause-lists c h l is =
    let before = c.index_mut.result.now in
    listed_shown (with_value c.args.nodes.now c.args.node (record { who = c.args.who; at = before.at; next = before.next; prev = before.prev })) c.args.node
    c.index_mut-2.result.now _ (sym c.index_mut-2.ensures.value) refl refl h l
    (listed_shown c.args.nodes.now c.args.node before _ (sym c.index_mut.ensures.value) refl refl h l is)
