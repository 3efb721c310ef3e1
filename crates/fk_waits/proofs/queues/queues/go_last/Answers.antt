use Rattle.std.proofs.Common.{◌∷◌, ◌++◌}
use Rattle.slab.specs.Slab.{ContainsKey}
use Rattle.fk_waits.specs.Queues.Chains.{AllAre}
use Rattle.fk_waits.proofs.InQueues.Standing.{beside_there, kept, kept_all, last_there, apart_from, of_middle, without}
use Rattle.fk_waits.proofs.queues.queues.go_last.Goals as goal

pub leave-requires : goal.leave-requires
leave-requires c = record {
  node = of_middle (ContainsKey c.args.nodes.now) c.requires.before c.requires.behind c.args.node c.requires.there.1;
  next = (beside_there c.args.nodes.now c.args.head c.args.node c.requires).0;
  prev = (beside_there c.args.nodes.now c.args.head c.args.node c.requires).1;
}

pub join-requires : goal.join-requires
join-requires c =
    let s = c.requires in
    let old = c.args.nodes.now in
    let new = c.leave.new.nodes in
    let there : AllAre (ContainsKey new) (c.args.head ∷ (s.before ++ s.behind)) =
    kept_all old new c.leave.ensures.shown.shown (c.args.head ∷ (s.before ++ s.behind)) (without
    (ContainsKey old) s.before s.behind c.args.head c.args.node s.there) in
    record {
      head = there.0;
      last = last_there new c.args.head (s.before ++ s.behind) (c.leave.ensures.leaves c.args.head s.before s.behind s.listed) there;
      node = kept old new c.leave.ensures.shown.shown c.args.node (of_middle (ContainsKey old) s.before s.behind c.args.node s.there.1);
    }

pub returns-clause-last : goal.returns-clause-last
returns-clause-last c l k is =
    c.join.ensures.joins (l ++ k) (c.leave.ensures.leaves c.args.head l k is) (apart_from c.args.nodes.now c.args.head c.args.node l k is)
