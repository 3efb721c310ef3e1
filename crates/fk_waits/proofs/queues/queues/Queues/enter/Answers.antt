use Rattle.std.proofs.Common.{Option, option_map, is_some, ap, ◌∙◌, ℕ}
use Rattle.fk_model.specs.declared.names.Who.{Who}
use Rattle.fk_waits.specs.declared.queues.lists.Node.{Node}
use Rattle.fk_waits.proofs.InQueues.Come.{filed_come, last_come, order_come, head_come}
use Rattle.fk_waits.proofs.InQueues.Heads.{gone_away, heads_same, leads_away}
use Rattle.fk_waits.proofs.InQueues.Standing.{there_by}
use Rattle.fk_waits.proofs.queues.queues.Queues.enter.Goals as goal

pub join-requires : goal.join-requires
join-requires c =
    let q = c.args.self.now in
    let k = c.requires.kept in
    let node = c.alone-node.result in
    let s = c.alone-node.new.nodes in
    let vacant = ap (λ (o : Option Node). option_map (λ (n : Node). (n.who, n.at)) o) c.alone-node.ensures.new in
    record {
      head = there_by s c.args.head (ap (λ (o : Option (Who × ℕ)). is_some o)
          (head_come q k.places k.filed c.args.who c.args.head node c.args.head c.requires.head vacant s c.alone-node.ensures.shown
          c.alone-node.ensures.others c.alone-node.ensures.lists).1);
      last = last_come q k.places k.filed c.args.who c.args.head node c.args.head c.requires.head vacant s c.alone-node.ensures.shown
          c.alone-node.ensures.others c.alone-node.ensures.lists;
      node = there_by s node (ap (λ (o : Option (Who × ℕ)). is_some o) c.alone-node.ensures.shown);
    }

pub join-requires-2-clause-last : goal.join-requires-2-clause-last
join-requires-2-clause-last c =
    let q = c.args.self.now in
    let k = c.requires.kept in
    let node = c.alone-node.result in
    let key = c.alone-key.result in
    let s = c.alone-node.new.nodes in
    let o = c.alone-key.new.nodes in
    let vacant = ap (λ (o : Option Node). option_map (λ (n : Node). (n.who, n.at)) o) c.alone-node.ensures.new in
    let free = ap (λ (o : Option Node). option_map (λ (n : Node). (n.who, n.at)) o) c.alone-key.ensures.new in
    let there = order_come q k.places k.filed c.args.who c.args.head node key c.requires.head vacant s c.alone-node.ensures.shown c.alone-node.ensures.others
    c.alone-node.ensures.lists free o c.alone-key.ensures.shown c.alone-key.ensures.others c.alone-key.ensures.lists in
    there.1

pub returns-clause-heads : goal.returns-clause-heads
returns-clause-heads c =
    let q = c.args.self.now in
    let node = c.alone-node.result in
    let t = c.join.new.nodes in
    let shown = c.join.ensures.shown.shown in
    let vacant = ap (λ (o : Option Node). option_map (λ (n : Node). (n.who, n.at)) o) c.alone-node.ensures.new in
    let before = gone_away q.lines node vacant in
    heads_same q.lines t node before
    (leads_away t node c.args.head c.args.who (shown node ∙ c.alone-node.ensures.shown) (before c.args.head c.requires.head))
    (λ m off. shown m ∙ c.alone-node.ensures.others m off)

pub returns-clause-filed : goal.returns-clause-filed
returns-clause-filed c l filed =
    let q = c.args.self.now in
    let node = c.alone-node.result in
    let key = c.alone-key.result in
    let s = c.alone-node.new.nodes in
    let o = c.alone-key.new.nodes in
    let vacant = ap (λ (o : Option Node). option_map (λ (n : Node). (n.who, n.at)) o) c.alone-node.ensures.new in
    let free = ap (λ (o : Option Node). option_map (λ (n : Node). (n.who, n.at)) o) c.alone-key.ensures.new in
    let made = filed_come q l filed c.args.who c.args.head node key c.requires.head vacant s c.alone-node.ensures.shown c.alone-node.ensures.others
    c.alone-node.ensures.lists free o c.alone-key.ensures.shown c.alone-key.ensures.others c.alone-key.ensures.lists
    c.join.new.nodes c.join.ensures.shown.shown c.join.ensures.joins c.join.ensures.others c.join-2.new.nodes c.join-2.ensures.shown.shown
    c.join-2.ensures.joins in
    rw (c.join-2.ensures.shown.shown key ∙ c.alone-key.ensures.shown) made
