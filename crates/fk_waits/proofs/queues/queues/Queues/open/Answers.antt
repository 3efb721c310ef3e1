use Rattle.std.proofs.Common.{[], Option, option_map, is_some, ap, ◌∙◌, ℕ}
use Rattle.fk_model.specs.declared.names.Who.{Who}
use Rattle.fk_waits.specs.declared.queues.lists.Node.{Node}
use Rattle.fk_waits.proofs.InQueues.Come.{opened}
use Rattle.fk_waits.proofs.InQueues.Standing.{there_by}
use Rattle.fk_waits.proofs.queues.queues.Queues.open.Goals as goal

pub show-requires : goal.show-requires
show-requires c =
    there_by c.alone-head.new.nodes c.alone-head.result (ap (λ (o : Option (Who × ℕ)). is_some o) c.alone-head.ensures.shown)

pub returns-clause-kept : goal.returns-clause-kept
returns-clause-kept c l filed =
    opened c.args.self.now c.alone-head.result c.args.name c.show.new.nodes
    (ap (λ (o : Option Node). option_map (λ (n : Node). (n.who, n.at)) o) c.alone-head.ensures.new) c.show.ensures.shown
    (λ m off. c.show.ensures.others m off ∙ c.alone-head.ensures.others m off)
    (c.show.ensures.lists c.alone-head.result [] c.alone-head.ensures.list)
    (λ h k is off. c.show.ensures.lists h k (c.alone-head.ensures.lists h k is off)) l filed

pub returns-clause-new : goal.returns-clause-new
returns-clause-new c = ap (λ (o : Option Node). option_map (λ (n : Node). (n.who, n.at)) o) c.alone-head.ensures.new

pub returns-clause-others : goal.returns-clause-others
returns-clause-others c m off = c.show.ensures.others m off ∙ c.alone-head.ensures.others m off
