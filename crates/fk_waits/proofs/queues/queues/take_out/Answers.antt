use Rattle.std.proofs.Common.{◌++◌}
use Rattle.slab.specs.Slab.{ContainsKey}
use Rattle.fk_waits.proofs.InQueues.Standing.{apart_from, beside_there, kept, of_middle}
use Rattle.fk_waits.proofs.queues.queues.take_out.Goals as goal

pub leave-requires : goal.leave-requires
leave-requires c = record {
  node = of_middle (ContainsKey c.args.nodes.now) c.requires.before c.requires.behind c.args.node c.requires.there.1;
  next = (beside_there c.args.nodes.now c.args.head c.args.node c.requires).0;
  prev = (beside_there c.args.nodes.now c.args.head c.args.node c.requires).1;
}

pub remove-requires : goal.remove-requires
remove-requires c =
    let s = c.requires in
    kept c.args.nodes.now c.leave.new.nodes c.leave.ensures.shown.shown c.args.node (of_middle
    (ContainsKey c.args.nodes.now) s.before s.behind c.args.node s.there.1)

pub returns-clause-left : goal.returns-clause-left
returns-clause-left c l k is =
    c.remove.ensures.lists c.args.head (l ++ k) (c.leave.ensures.leaves c.args.head l k is) (apart_from c.args.nodes.now c.args.head c.args.node l k is)
